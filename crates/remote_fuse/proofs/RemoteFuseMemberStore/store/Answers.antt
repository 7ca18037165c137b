use Rattle.remote_fuse.proofs.RemoteFuseMemberStore.store.Goals as goal

pub returns-clause-own : goal.returns-clause-own
returns-clause-own g c = (c.obey.new.self.fuse.left, rw (← c.obey.ensures.below, ← c.obey.ensures.blown) c.store.ensures.own)
