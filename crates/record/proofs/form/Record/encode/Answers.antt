use Rattle.std.proofs.Common.{◌≡◌, ℕ, ◌<◌, ◌≤◌, List, length, ap, ◌∙◌, arith}
use Rattle.std.proofs.lemmas.List.{length-take-le}
use Rattle.stripe_set.specs.Stripes.{stripes}
use Rattle.record.specs.Contents.{contents}
use Rattle.record.specs.Form.{block}
use Rattle.record.specs.Reading.{recorded}
use Rattle.record.proofs.Steps.{allows}
use Rattle.record.proofs.RoundTrip.{read_back}
use Rattle.record.proofs.form.Record.encode.Goals as goal

pub returns : goal.returns
returns c =
    let r = c.args.self.now in
    let same = c.version.ensures in
    let small : r.version < 4294967296 = omega arith in
    let e : c.write.new.buf ≡ block (contents r) = c.write.ensures ∙ ap (λ (v : ℕ). block (record { version = v; stripes = c.as_slice.result.now })) c.version.ensures ∙ ap (λ (ss : List ℕ). block (record { version = r.version; stripes = ss })) c.as_slice.ensures in
    let wide : length r.stripes.items ≡ 64 = r.stripes.whole in
    let few : r.stripes.len ≤ 64 = r.stripes.few in
    let short : length (stripes r.stripes) ≤ 64 = omega (arith, length-take-le r.stripes.len r.stripes.items (omega arith)) in
    record {
      bytes = e;
      reads_back = ap recorded e ∙ read_back r.version (stripes r.stripes) (allows r.version (length (stripes r.stripes)) r.first short r.last) small r.stripes.rising;
    }
