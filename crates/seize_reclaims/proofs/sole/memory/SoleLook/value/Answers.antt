use Rattle.std.proofs.Common.{◌≡◌, ℕ, Bool, sym, ap, ◌∙◌}
use Rattle.std.specs.Prelude.{Option, Some, None}
use Rattle.seize_reclaims.specs.Empties.Made.{shown_as}
use Rattle.seize_reclaims.specs.Renews.One.{shown_to_one}
use Rattle.seize_reclaims.specs.declared.alone.Alone.{Alone}
use Rattle.seize_reclaims.proofs.sole.memory.SoleLook.value.Goals as goal
use Rattle.seize_words.proofs.General.{some_there as is_told}

-- who is shown something acts
acts_so : {T : Type 0} (defers : T → Option ℕ) (left_over : T → Bool) (o : Option (Alone T)) (b : ℕ) (x : T) → shown_as defers left_over o b ≡ Some x
    → (a : Alone T) × (o ≡ Some a) × (shown_to_one defers left_over a b ≡ Some x)
acts_so defers left_over None b x is = absurd (cc is)
acts_so defers left_over (Some a) b x is = (a, λ i. Some a, is)

pub value-requires-clause-shown : goal.value-requires-clause-shown
value-requires-clause-shown g c =
    let x = c.args.self.now in let o = g.R.One.acts x.seat.view in let k = is_told (shown_as g.T.Defers.defers g.R.Leftovers.left o c.args.block) c.requires in
    let a = acts_so g.T.Defers.defers g.R.Leftovers.left o c.args.block k.0 k.1 in
    (c.acts_alone.ensures.shown x.blocks.now.words.fixed x.seat.id x.seat.view a.0 c.args.block k.0 a.1 a.2).0

pub returns : goal.returns
returns g c =
    let x = c.args.self.now in let o = g.R.One.acts x.seat.view in let k = is_told (shown_as g.T.Defers.defers g.R.Leftovers.left o c.args.block) c.requires in
    let a = acts_so g.T.Defers.defers g.R.Leftovers.left o c.args.block k.0 k.1 in
    let l = c.acts_alone.ensures.shown x.blocks.now.words.fixed x.seat.id x.seat.view a.0 c.args.block k.0 a.1 a.2 in
    k.1 ∙ ap Some (sym (l.1 c.value.result.now c.value.ensures))
