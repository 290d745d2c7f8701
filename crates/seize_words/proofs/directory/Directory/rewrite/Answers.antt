use Rattle.std.proofs.Common.{rules, IsSome, None, ap, ◌∙◌}
use Rattle.std.specs.Prelude.{slice_index_or, slice_set}
use Rattle.seize_words.specs.OneMemory.Buckets.{all_in}
use Rattle.seize_words.specs.OneMemory.Mem.{value_in, with_value_in}
use Rattle.seize_words.proofs.OneMemory.DirectoryKept.{bucket_there, found, IsDirectory-changed, place_fits, some_by_value, some_lt, with_value_in-some, written}
use Rattle.seize_words.proofs.directory.Directory.rewrite.Goals as goal

pub place_of-bucket-requires : goal.place_of-bucket-requires
place_of-bucket-requires g c =
    let some : IsSome (value_in (slice_index_or (all_in c.self.inside.buckets.items) c.args.place None)) = rw c.self.view_is c.requires in
    let is = some_by_value (slice_index_or (all_in c.self.inside.buckets.items) c.args.place None) some in
    let inside = some_lt (all_in c.self.inside.buckets.items) c.args.place is in
    place_fits c.self.inside.count c.self.inside.buckets.items c.self.inside.free c.self.invariant c.args.place inside

pub index_mut-requires : goal.index_mut-requires
index_mut-requires g c =
    let some : IsSome (value_in (slice_index_or (all_in c.self.inside.buckets.items) c.args.place None)) = rw c.self.view_is c.requires in
    let is = some_by_value (slice_index_or (all_in c.self.inside.buckets.items) c.args.place None) some in
    let inside = some_lt (all_in c.self.inside.buckets.items) c.args.place is in
    search (rules, bucket_there c.self.inside.count c.self.inside.buckets.items c.self.inside.free c.self.invariant c.args.place inside c.place_of-bucket.result.0 c.place_of-bucket.result.1 c.place_of-bucket.ensures.place)

pub rewrite-requires : goal.rewrite-requires
rewrite-requires g c =
    let some : IsSome (value_in (slice_index_or (all_in c.self.inside.buckets.items) c.args.place None)) = rw c.self.view_is c.requires in
    let is = some_by_value (slice_index_or (all_in c.self.inside.buckets.items) c.args.place None) some in
    let inside = some_lt (all_in c.self.inside.buckets.items) c.args.place is in
    let e = found c.self.inside.count c.self.inside.buckets.items c.self.inside.free c.self.invariant c.args.place inside c.place_of-bucket.result.0 c.place_of-bucket.result.1 c.place_of-bucket.ensures.place c.index_mut.result.now c.index_mut.ensures.value in
    rw e some

pub invariant_of-self : goal.invariant_of-self
invariant_of-self g c =
    let some : IsSome (value_in (slice_index_or (all_in c.self.inside.buckets.items) c.args.place None)) = rw c.self.view_is c.requires in
    let is = some_by_value (slice_index_or (all_in c.self.inside.buckets.items) c.args.place None) some in
    let inside = some_lt (all_in c.self.inside.buckets.items) c.args.place is in
    let e = found c.self.inside.count c.self.inside.buckets.items c.self.inside.free c.self.invariant c.args.place inside c.place_of-bucket.result.0 c.place_of-bucket.result.1 c.place_of-bucket.ensures.place c.index_mut.result.now c.index_mut.ensures.value in
    IsDirectory-changed c.self.inside.count c.self.inside.buckets.items c.self.inside.free c.self.invariant c.args.place inside c.place_of-bucket.result.0 c.place_of-bucket.result.1 c.place_of-bucket.ensures.place c.index_mut.result.now c.index_mut.ensures.value
    c.rewrite.new.self (with_value_in (slice_index_or c.index_mut.result.now c.place_of-bucket.result.1 None) c.args.value) c.rewrite.ensures.after is (with_value_in-some (slice_index_or c.index_mut.result.now c.place_of-bucket.result.1 None) c.args.value (is.0, e ∙ is.1))

pub returns-clause-after : goal.returns-clause-after
returns-clause-after g c =
    let some : IsSome (value_in (slice_index_or (all_in c.self.inside.buckets.items) c.args.place None)) = rw c.self.view_is c.requires in
    let is = some_by_value (slice_index_or (all_in c.self.inside.buckets.items) c.args.place None) some in
    let inside = some_lt (all_in c.self.inside.buckets.items) c.args.place is in
    let e = found c.self.inside.count c.self.inside.buckets.items c.self.inside.free c.self.invariant c.args.place inside c.place_of-bucket.result.0 c.place_of-bucket.result.1 c.place_of-bucket.ensures.place c.index_mut.result.now c.index_mut.ensures.value in
    rw (← c.self.view_is)
    (written c.self.inside.count c.self.inside.buckets.items c.self.inside.free c.self.invariant c.args.place inside c.place_of-bucket.result.0 c.place_of-bucket.result.1 c.place_of-bucket.ensures.place c.index_mut.result.now c.index_mut.ensures.value c.rewrite.new.self (with_value_in (slice_index_or c.index_mut.result.now c.place_of-bucket.result.1 None) c.args.value) c.rewrite.ensures.after
    ∙ ap (λ b. slice_set (all_in c.self.inside.buckets.items) c.args.place (with_value_in b c.args.value)) e)

pub returns-clause-before : goal.returns-clause-before
returns-clause-before g c =
    let some : IsSome (value_in (slice_index_or (all_in c.self.inside.buckets.items) c.args.place None)) = rw c.self.view_is c.requires in
    let is = some_by_value (slice_index_or (all_in c.self.inside.buckets.items) c.args.place None) some in
    let inside = some_lt (all_in c.self.inside.buckets.items) c.args.place is in
    let e = found c.self.inside.count c.self.inside.buckets.items c.self.inside.free c.self.invariant c.args.place inside c.place_of-bucket.result.0 c.place_of-bucket.result.1 c.place_of-bucket.ensures.place c.index_mut.result.now c.index_mut.ensures.value in
    rw (← c.self.view_is, ← e) c.rewrite.ensures.before
