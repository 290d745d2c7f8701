use Rattle.std.proofs.Common.{rules, ◌≡◌, length, ◌∙◌, ap}
use Rattle.seize_words.specs.declared.slots.TheConstants.{SLOT_WORDS}
use Rattle.std.specs.Prelude.{replicate, Result, Ok, Err, OnErr}
use Rattle.seize_words.specs.OneMemory.Buckets.{all_in}
use Rattle.seize_words.proofs.OneMemory.Places.Words.{IsBucketed-more, next_length, slots_in-more, slots_in-same}
use Rattle.seize_words.proofs.slots.Slots.room.Goals as goal

on_err : {X E P : Type 0} (r : Result X E) → P → OnErr r P
on_err (Ok x) p = tt
on_err (Err e) p = p

pub invariant_of-self-in_ok-push : goal.invariant_of-self-in_ok-push
invariant_of-self-in_ok-push c =
    let next : c.args.bucket ≡ length c.self.inside.buckets.items = search (rules, c.if-bucket-len.true, c.len.ensures) in
    rw c.in_ok-push.ensures.items
    (IsBucketed-more c.self.inside.buckets.items c.self.invariant c.args.bucket next c.requires.last c.in_ok-zeros.field-0
    (c.in_ok-zeros.ensures ∙ ap (λ k. replicate k (replicate SLOT_WORDS 0)) c.bucket_capacity.ensures))

pub returns-in_ok-push-clause-ok : goal.returns-in_ok-push-clause-ok
returns-in_ok-push-clause-ok c =
    let next : c.args.bucket ≡ length c.self.inside.buckets.items = search (rules, c.if-bucket-len.true, c.len.ensures) in
    rw (← c.self.view_is)
    (ap all_in c.in_ok-push.ensures.items
    ∙ slots_in-more c.self.inside.buckets.items c.self.invariant c.args.bucket next c.requires.last c.in_ok-zeros.field-0
    (c.in_ok-zeros.ensures ∙ ap (λ k. replicate k (replicate SLOT_WORDS 0)) c.bucket_capacity.ensures))

pub returns-else-bucket-len-clause-ok : goal.returns-else-bucket-len-clause-ok
returns-else-bucket-len-clause-ok c =
    rw (← c.self.view_is) (slots_in-same c.self.inside.buckets.items c.self.invariant c.args.bucket (search (rules, c.if-bucket-len.false, c.len.ensures)))

pub returns-in_err-zeros-clause-grows : goal.returns-in_err-zeros-clause-grows
returns-in_err-zeros-clause-grows c =
    let next : c.args.bucket ≡ length c.self.inside.buckets.items = search (rules, c.if-bucket-len.true, c.len.ensures) in
    rw (← c.self.view_is) (on_err c.from_residual.result (next_length c.self.inside.buckets.items c.self.invariant c.args.bucket next))

pub returns-in_err-push-clause-grows : goal.returns-in_err-push-clause-grows
returns-in_err-push-clause-grows c =
    let next : c.args.bucket ≡ length c.self.inside.buckets.items = search (rules, c.if-bucket-len.true, c.len.ensures) in
    rw (← c.self.view_is) (on_err c.from_residual-in_err-push.result (next_length c.self.inside.buckets.items c.self.invariant c.args.bucket next))
