use Rattle.std.proofs.Common.{rules, IsSome, None}
use Rattle.std.specs.Prelude.{slice_index_or}
use Rattle.seize_words.specs.OneMemory.Buckets.{all_in}
use Rattle.seize_words.proofs.OneMemory.DirectoryKept.{bucket_there, found, place_fits, some_itself, some_lt}
use Rattle.seize_words.proofs.directory.Directory.piece.Goals as goal

pub place_of-bucket-requires : goal.place_of-bucket-requires
place_of-bucket-requires g c =
    let some : IsSome (slice_index_or (all_in c.self.inside.buckets.items) c.args.place None) = rw c.self.view_is c.requires in
    let inside = some_lt (all_in c.self.inside.buckets.items) c.args.place (some_itself (slice_index_or (all_in c.self.inside.buckets.items) c.args.place None) some) in
    place_fits c.self.inside.count c.self.inside.buckets.items c.self.inside.free c.self.invariant c.args.place inside

pub index-requires : goal.index-requires
index-requires g c =
    let some : IsSome (slice_index_or (all_in c.self.inside.buckets.items) c.args.place None) = rw c.self.view_is c.requires in
    let inside = some_lt (all_in c.self.inside.buckets.items) c.args.place (some_itself (slice_index_or (all_in c.self.inside.buckets.items) c.args.place None) some) in
    search (rules, bucket_there c.self.inside.count c.self.inside.buckets.items c.self.inside.free c.self.invariant c.args.place inside c.place_of-bucket.result.0 c.place_of-bucket.result.1 c.place_of-bucket.ensures.place)

pub piece-requires : goal.piece-requires
piece-requires g c =
    let some : IsSome (slice_index_or (all_in c.self.inside.buckets.items) c.args.place None) = rw c.self.view_is c.requires in
    let inside = some_lt (all_in c.self.inside.buckets.items) c.args.place (some_itself (slice_index_or (all_in c.self.inside.buckets.items) c.args.place None) some) in
    rw (found c.self.inside.count c.self.inside.buckets.items c.self.inside.free c.self.invariant c.args.place inside c.place_of-bucket.result.0 c.place_of-bucket.result.1 c.place_of-bucket.ensures.place c.index.result.now c.index.ensures) some

pub returns : goal.returns
returns g c =
    let some : IsSome (slice_index_or (all_in c.self.inside.buckets.items) c.args.place None) = rw c.self.view_is c.requires in
    let inside = some_lt (all_in c.self.inside.buckets.items) c.args.place (some_itself (slice_index_or (all_in c.self.inside.buckets.items) c.args.place None) some) in
    let e = found c.self.inside.count c.self.inside.buckets.items c.self.inside.free c.self.invariant c.args.place inside c.place_of-bucket.result.0 c.place_of-bucket.result.1 c.place_of-bucket.ensures.place c.index.result.now c.index.ensures in
    rw (← c.self.view_is, ← e) c.piece.ensures
