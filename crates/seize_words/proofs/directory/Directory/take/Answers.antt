use Rattle.std.proofs.Common.{rules, IsSome, None, Some, ap, refl, sym, ◌∙◌}
use Rattle.std.specs.Prelude.{slice_index_or}
use Rattle.seize_words.specs.OneMemory.Buckets.{all_in}
use Rattle.seize_words.specs.OneMemory.Mem.{value_in}
use Rattle.seize_words.proofs.OneMemory.DirectoryKept.{bucket_there, found, IsDirectory-taken, place_fits, some_by_value, some_lt, written}
use Rattle.seize_words.proofs.directory.Directory.take.Goals as goal

pub place_of-bucket-requires : goal.place_of-bucket-requires
place_of-bucket-requires g c =
    let some : IsSome (value_in (slice_index_or (all_in c.self.inside.buckets.items) c.args.place None)) = rw c.self.view_is c.requires in
    let is = some_by_value (slice_index_or (all_in c.self.inside.buckets.items) c.args.place None) some in
    let inside = some_lt (all_in c.self.inside.buckets.items) c.args.place is in
    place_fits c.self.inside.count c.self.inside.buckets.items c.self.inside.free c.self.invariant c.args.place inside

pub index_mut-requires : goal.index_mut-requires
index_mut-requires g c =
    let some : IsSome (value_in (slice_index_or (all_in c.self.inside.buckets.items) c.args.place None)) = rw c.self.view_is c.requires in
    let is = some_by_value (slice_index_or (all_in c.self.inside.buckets.items) c.args.place None) some in
    let inside = some_lt (all_in c.self.inside.buckets.items) c.args.place is in
    search (rules, bucket_there c.self.inside.count c.self.inside.buckets.items c.self.inside.free c.self.invariant c.args.place inside c.place_of-bucket.result.0 c.place_of-bucket.result.1 c.place_of-bucket.ensures.place)

pub take-piece-requires : goal.take-piece-requires
take-piece-requires g c =
    let some : IsSome (value_in (slice_index_or (all_in c.self.inside.buckets.items) c.args.place None)) = rw c.self.view_is c.requires in
    let is = some_by_value (slice_index_or (all_in c.self.inside.buckets.items) c.args.place None) some in
    let inside = some_lt (all_in c.self.inside.buckets.items) c.args.place is in
    let e = found c.self.inside.count c.self.inside.buckets.items c.self.inside.free c.self.invariant c.args.place inside c.place_of-bucket.result.0 c.place_of-bucket.result.1 c.place_of-bucket.ensures.place c.index_mut.result.now c.index_mut.ensures.value in
    rw (e ∙ is.1) refl

pub invariant_of-self : goal.invariant_of-self
invariant_of-self g c =
    let some : IsSome (value_in (slice_index_or (all_in c.self.inside.buckets.items) c.args.place None)) = rw c.self.view_is c.requires in
    let is = some_by_value (slice_index_or (all_in c.self.inside.buckets.items) c.args.place None) some in
    let inside = some_lt (all_in c.self.inside.buckets.items) c.args.place is in
    rw c.give.ensures
    (IsDirectory-taken c.self.inside.count c.self.inside.buckets.items c.self.inside.free c.self.invariant c.args.place inside c.place_of-bucket.result.0 c.place_of-bucket.result.1 c.place_of-bucket.ensures.place c.index_mut.result.now c.index_mut.ensures.value c.take-piece.new.self c.take-piece.ensures.after some)

pub returns-clause-before : goal.returns-clause-before
returns-clause-before g c =
    let some : IsSome (value_in (slice_index_or (all_in c.self.inside.buckets.items) c.args.place None)) = rw c.self.view_is c.requires in
    let is = some_by_value (slice_index_or (all_in c.self.inside.buckets.items) c.args.place None) some in
    let inside = some_lt (all_in c.self.inside.buckets.items) c.args.place is in
    let e = found c.self.inside.count c.self.inside.buckets.items c.self.inside.free c.self.invariant c.args.place inside c.place_of-bucket.result.0 c.place_of-bucket.result.1 c.place_of-bucket.ensures.place c.index_mut.result.now c.index_mut.ensures.value in
    rw (← c.self.view_is) (ap value_in (sym e ∙ c.take-piece.ensures.before) ∙ ap Some (sym c.take.ensures))

pub returns-clause-after : goal.returns-clause-after
returns-clause-after g c =
    let some : IsSome (value_in (slice_index_or (all_in c.self.inside.buckets.items) c.args.place None)) = rw c.self.view_is c.requires in
    let is = some_by_value (slice_index_or (all_in c.self.inside.buckets.items) c.args.place None) some in
    let inside = some_lt (all_in c.self.inside.buckets.items) c.args.place is in
    rw (← c.self.view_is)
    (written c.self.inside.count c.self.inside.buckets.items c.self.inside.free c.self.invariant c.args.place inside c.place_of-bucket.result.0 c.place_of-bucket.result.1 c.place_of-bucket.ensures.place c.index_mut.result.now c.index_mut.ensures.value c.take-piece.new.self None c.take-piece.ensures.after)
