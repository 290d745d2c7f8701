use Rattle.std.proofs.Common.{rules, ◌≡◌, [], sym, ◌∙◌, ap}
use Rattle.std.proofs.lemmas.List.{get_or_default}
use Rattle.std.specs.Prelude.{slice_index_or}
use Rattle.seize_words.specs.OneMemory.SlotWords.{slot_word}
use Rattle.seize_words.proofs.OneMemory.Places.Words.{slot_fits, bucket_there, slot_word-place}
use Rattle.seize_words.proofs.slots.Slots.get.Goals as goal

pub place_of-bucket-requires : goal.place_of-bucket-requires
place_of-bucket-requires c = slot_fits c.self.inside.buckets.items c.self.invariant c.args.slot c.args.field (rw c.self.view_is c.requires)

pub index-requires : goal.index-requires
index-requires c =
    let there = bucket_there c.self.inside.buckets.items c.self.invariant c.args.slot c.place_of-bucket.result.0 c.place_of-bucket.result.1 c.args.field
    c.place_of-bucket.ensures.place (rw c.self.view_is c.requires) in
    search (rules, there)

pub get-requires : goal.get-requires
get-requires c =
    let some = rw (← c.self.view_is) at c.requires in
    let there = bucket_there c.self.inside.buckets.items c.self.invariant c.args.slot c.place_of-bucket.result.0 c.place_of-bucket.result.1 c.args.field
    c.place_of-bucket.ensures.place some in
    let e = slot_word-place c.self.inside.buckets.items c.self.invariant c.args.slot c.place_of-bucket.result.0 c.place_of-bucket.result.1 c.args.field
    c.place_of-bucket.ensures.place some in
    let d = get_or_default c.self.inside.buckets.items c.place_of-bucket.result.0 c.index.result.now [] there in
    let is : slice_index_or c.self.inside.buckets.items c.place_of-bucket.result.0 [] ≡ c.index.result.now = sym (c.index.ensures ∙ d) in
    rw (e, is) at some

pub returns : goal.returns
returns c =
    let some = rw (← c.self.view_is) at c.requires in
    let there = bucket_there c.self.inside.buckets.items c.self.invariant c.args.slot c.place_of-bucket.result.0 c.place_of-bucket.result.1 c.args.field
    c.place_of-bucket.ensures.place some in
    let e = slot_word-place c.self.inside.buckets.items c.self.invariant c.args.slot c.place_of-bucket.result.0 c.place_of-bucket.result.1 c.args.field
    c.place_of-bucket.ensures.place some in
    let d = get_or_default c.self.inside.buckets.items c.place_of-bucket.result.0 c.index.result.now [] there in
    let is : slice_index_or c.self.inside.buckets.items c.place_of-bucket.result.0 [] ≡ c.index.result.now = sym (c.index.ensures ∙ d) in
    rw (← c.self.view_is) (e ∙ ap (λ bucket. slot_word bucket c.place_of-bucket.result.1 c.args.field) is ∙ c.get.ensures)
