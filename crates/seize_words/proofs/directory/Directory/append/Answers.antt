use Rattle.std.proofs.Common.{rules, ◌+◌, Some, length, ap, ◌∙◌}
use Rattle.seize_words.proofs.OneMemory.DirectoryKept.{IsDirectory-not_pushed, IsDirectory-pushed, next_there, not_pushed, pushed}
use Rattle.seize_words.proofs.directory.Directory.append.Goals as goal

pub index_mut-requires : goal.index_mut-requires
index_mut-requires g c = search (rules, next_there c.self.inside.count c.self.inside.buckets.items c.self.inside.free c.self.invariant c.place_of-bucket.result.0 c.place_of-bucket.result.1 c.place_of-bucket.ensures.place c.grow.new.buckets.items c.in-Ok.ensures.ok)

pub invariant_of-self-in-Ok-push : goal.invariant_of-self-in-Ok-push
invariant_of-self-in-Ok-push g c =
    IsDirectory-pushed c.self.inside.count c.self.inside.buckets.items c.self.inside.free c.self.invariant c.place_of-bucket.result.0 c.place_of-bucket.result.1 c.place_of-bucket.ensures.place c.grow.new.buckets.items c.in-Ok.ensures.ok c.index_mut.result.now c.index_mut.ensures.value
    c.push.new.self c.args.made c.grow.new.free c.in-Ok-push.ensures.ok c.if-number-ge-NUMBERS.false c.grow.ensures.numbers c.in-Ok.ensures.room

pub invariant_of-self-in-Err : goal.invariant_of-self-in-Err
invariant_of-self-in-Err g c =
    IsDirectory-not_pushed c.self.inside.count c.self.inside.buckets.items c.self.inside.free c.self.invariant c.place_of-bucket.result.0 c.place_of-bucket.result.1 c.place_of-bucket.ensures.place c.grow.new.buckets.items c.in-Ok.ensures.ok c.index_mut.result.now c.index_mut.ensures.value
    c.push.new.self c.grow.new.free c.in-Err.ensures.err.1 c.grow.ensures.numbers c.in-Ok.ensures.room

pub returns-in-Ok-push-clause-ok : goal.returns-in-Ok-push-clause-ok
returns-in-Ok-push-clause-ok g c = (
  ap (λ n. n + 1) (c.self.invariant.counted ∙ ap length c.self.view_is),
  c.if-number-ge-NUMBERS.false,
  rw (← c.self.view_is) (pushed c.self.inside.count c.self.inside.buckets.items c.self.inside.free c.self.invariant c.place_of-bucket.result.0 c.place_of-bucket.result.1 c.place_of-bucket.ensures.place c.grow.new.buckets.items c.in-Ok.ensures.ok c.index_mut.result.now c.index_mut.ensures.value c.push.new.self (Some c.args.made) c.in-Ok-push.ensures.ok),
)

pub returns-in-Err-clause-err : goal.returns-in-Err-clause-err
returns-in-Err-clause-err g c =
    (c.in-Err.ensures.err.0, rw (← c.self.view_is) (not_pushed c.self.inside.count c.self.inside.buckets.items c.self.inside.free c.self.invariant c.place_of-bucket.result.0 c.place_of-bucket.result.1 c.place_of-bucket.ensures.place c.grow.new.buckets.items c.in-Ok.ensures.ok c.index_mut.result.now c.index_mut.ensures.value c.push.new.self c.in-Err.ensures.err.1))
