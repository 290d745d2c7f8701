use Rattle.std.proofs.Common.{rules, IsSome, None, ap, ◌∙◌}
use Rattle.std.specs.Prelude.{slice_index_or, slice_set}
use Rattle.seize_words.specs.OneMemory.Buckets.{all_in}
use Rattle.seize_words.specs.OneMemory.Mem.{word_in, with_word_in}
use Rattle.seize_words.proofs.OneMemory.DirectoryKept.{bucket_there, found, IsDirectory-changed, place_fits, some_by_word, some_lt, with_word_in-some, written}
use Rattle.seize_words.proofs.directory.Directory.set_word.Goals as goal

pub place_of-bucket-requires : goal.place_of-bucket-requires
place_of-bucket-requires g c =
    let some : IsSome (word_in (slice_index_or (all_in c.self.inside.buckets.items) c.args.place None) c.args.field) = rw c.self.view_is c.requires in
    let is = some_by_word (slice_index_or (all_in c.self.inside.buckets.items) c.args.place None) c.args.field some in
    let inside = some_lt (all_in c.self.inside.buckets.items) c.args.place is in
    place_fits c.self.inside.count c.self.inside.buckets.items c.self.inside.free c.self.invariant c.args.place inside

pub index_mut-requires : goal.index_mut-requires
index_mut-requires g c =
    let some : IsSome (word_in (slice_index_or (all_in c.self.inside.buckets.items) c.args.place None) c.args.field) = rw c.self.view_is c.requires in
    let is = some_by_word (slice_index_or (all_in c.self.inside.buckets.items) c.args.place None) c.args.field some in
    let inside = some_lt (all_in c.self.inside.buckets.items) c.args.place is in
    search (rules, bucket_there c.self.inside.count c.self.inside.buckets.items c.self.inside.free c.self.invariant c.args.place inside c.place_of-bucket.result.0 c.place_of-bucket.result.1 c.place_of-bucket.ensures.place)

pub set_word-requires : goal.set_word-requires
set_word-requires g c =
    let some : IsSome (word_in (slice_index_or (all_in c.self.inside.buckets.items) c.args.place None) c.args.field) = rw c.self.view_is c.requires in
    let is = some_by_word (slice_index_or (all_in c.self.inside.buckets.items) c.args.place None) c.args.field some in
    let inside = some_lt (all_in c.self.inside.buckets.items) c.args.place is in
    let e = found c.self.inside.count c.self.inside.buckets.items c.self.inside.free c.self.invariant c.args.place inside c.place_of-bucket.result.0 c.place_of-bucket.result.1 c.place_of-bucket.ensures.place c.index_mut.result.now c.index_mut.ensures.value in
    rw e some

pub invariant_of-self : goal.invariant_of-self
invariant_of-self g c =
    let some : IsSome (word_in (slice_index_or (all_in c.self.inside.buckets.items) c.args.place None) c.args.field) = rw c.self.view_is c.requires in
    let is = some_by_word (slice_index_or (all_in c.self.inside.buckets.items) c.args.place None) c.args.field some in
    let inside = some_lt (all_in c.self.inside.buckets.items) c.args.place is in
    let e = found c.self.inside.count c.self.inside.buckets.items c.self.inside.free c.self.invariant c.args.place inside c.place_of-bucket.result.0 c.place_of-bucket.result.1 c.place_of-bucket.ensures.place c.index_mut.result.now c.index_mut.ensures.value in
    IsDirectory-changed c.self.inside.count c.self.inside.buckets.items c.self.inside.free c.self.invariant c.args.place inside c.place_of-bucket.result.0 c.place_of-bucket.result.1 c.place_of-bucket.ensures.place c.index_mut.result.now c.index_mut.ensures.value
    c.set_word.new.self (with_word_in (slice_index_or c.index_mut.result.now c.place_of-bucket.result.1 None) c.args.field c.args.word) c.set_word.ensures is (with_word_in-some (slice_index_or c.index_mut.result.now c.place_of-bucket.result.1 None) c.args.field c.args.word (is.0, e ∙ is.1))

pub returns : goal.returns
returns g c =
    let some : IsSome (word_in (slice_index_or (all_in c.self.inside.buckets.items) c.args.place None) c.args.field) = rw c.self.view_is c.requires in
    let is = some_by_word (slice_index_or (all_in c.self.inside.buckets.items) c.args.place None) c.args.field some in
    let inside = some_lt (all_in c.self.inside.buckets.items) c.args.place is in
    let e = found c.self.inside.count c.self.inside.buckets.items c.self.inside.free c.self.invariant c.args.place inside c.place_of-bucket.result.0 c.place_of-bucket.result.1 c.place_of-bucket.ensures.place c.index_mut.result.now c.index_mut.ensures.value in
    rw (← c.self.view_is)
    (written c.self.inside.count c.self.inside.buckets.items c.self.inside.free c.self.invariant c.args.place inside c.place_of-bucket.result.0 c.place_of-bucket.result.1 c.place_of-bucket.ensures.place c.index_mut.result.now c.index_mut.ensures.value c.set_word.new.self (with_word_in (slice_index_or c.index_mut.result.now c.place_of-bucket.result.1 None) c.args.field c.args.word) c.set_word.ensures
    ∙ ap (λ b. slice_set (all_in c.self.inside.buckets.items) c.args.place (with_word_in b c.args.field c.args.word)) e)
