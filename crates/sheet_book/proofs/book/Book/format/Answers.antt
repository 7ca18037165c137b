use Rattle.std.proofs.Common.{◌≡◌, ◌<◌, ◌≤◌, ◌++◌, length, drop, set, replicate, vec_items, vec_len, ap, ◌∙◌, append-nil, arith}
use Rattle.std.proofs.lemmas.List.{drop_all}
use Rattle.sheet_book.specs.Pages.{zeros}
use Rattle.sheet_book.proofs.Listing.{filled}
use Rattle.sheet_book.proofs.book.Book.format.Goals as goal

pub loop-block-preserved : goal.loop-block-preserved
loop-block-preserved c =
    let bases = c.args.self.now.bases in
    let i = c.loop-block.block in
    let lt : i < length (vec_items bases) = omega (arith, bases.ok.0, c.len-block-end.ensures, c.loop-block-test.true) in
    c.rebase.ensures.bases ∙ ap (λ xs. set xs i zeros) c.loop-block.invariant ∙ filled (vec_items bases) i zeros lt

pub returns : goal.returns
returns c =
    let bases = c.args.self.now.bases in
    let i = c.loop-block.block in
    let n = vec_len bases in
    let at : i ≡ n = omega (arith, c.len-block-end.ensures, c.loop-block-test.false, c.loop-block.auto.block-end) in
    let le : length (vec_items bases) ≤ n = omega (arith, bases.ok.0) in
    record {
      bases = ap vec_items c.empty_lists.ensures.bases ∙ c.loop-block.invariant ∙ ap (λ k. replicate k zeros ++ drop k (vec_items bases)) at ∙ ap (λ ys. replicate n zeros ++ ys) (drop_all n (vec_items bases) le) ∙ append-nil (replicate n zeros);
      lists = c.empty_lists.ensures.lists;
    }
