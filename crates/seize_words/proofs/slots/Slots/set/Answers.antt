use Rattle.std.proofs.Common.{rules, refl}
use Rattle.seize_words.proofs.OneMemory.Places.Words.{slot_fits, bucket_there, some_in_bucket, slots_in-written, IsBucketed-written}
use Rattle.seize_words.proofs.slots.Slots.set.Goals as goal

pub place_of-bucket-requires : goal.place_of-bucket-requires
place_of-bucket-requires c = slot_fits c.self.inside.buckets.items c.self.invariant c.args.slot c.args.field (rw c.self.view_is c.requires)

pub index_mut-requires : goal.index_mut-requires
index_mut-requires c =
    let there = bucket_there c.self.inside.buckets.items c.self.invariant c.args.slot c.place_of-bucket.result.0 c.place_of-bucket.result.1 c.args.field
    c.place_of-bucket.ensures.place (rw c.self.view_is c.requires) in
    search (rules, there)

pub set-requires : goal.set-requires
set-requires c =
    some_in_bucket c.self.inside.buckets.items c.self.invariant c.args.slot c.place_of-bucket.result.0 c.place_of-bucket.result.1 c.args.field
    c.place_of-bucket.ensures.place (rw c.self.view_is c.requires)
    c.index_mut.result.now _ c.args.word c.index_mut.ensures.value refl

pub invariant_of-self : goal.invariant_of-self
invariant_of-self c =
    IsBucketed-written c.self.inside.buckets.items c.self.invariant c.args.slot c.place_of-bucket.result.0 c.place_of-bucket.result.1 c.args.field
    c.place_of-bucket.ensures.place (rw c.self.view_is c.requires)
    c.index_mut.result.now c.set.new.self c.args.word c.index_mut.ensures.value c.set.ensures

pub returns : goal.returns
returns c =
    rw (← c.self.view_is)
    (slots_in-written c.self.inside.buckets.items c.self.invariant c.args.slot c.place_of-bucket.result.0 c.place_of-bucket.result.1 c.args.field
    c.place_of-bucket.ensures.place (rw c.self.view_is c.requires)
    c.index_mut.result.now c.set.new.self c.args.word c.index_mut.ensures.value c.set.ensures)
