-- What users do leaves a block that was linked as it was.
use Rattle.std.specs.Prelude.{◌≡◌, ◌≢◌, ℕ, List, [], ◌∷◌, Option, None, Ok, Err, IsSome}
use Rattle.std.proofs.Common.{refl, ap, sym, subst, ◌∙◌}
use Rattle.seize_words.specs.OneMemory.Mem.{Mem, value_in, value_at, Took}
use Rattle.seize_words.specs.OneMemory.Op.{Out, Make, Made}
use Rattle.seize_acts.proofs.Given.SeizeRuleWorld.Values.{own_op_value, taken_value, made_value, rewritten_value}
use Rattle.seize.specs.Sequence.{IsUsers}
use Rattle.seize.specs.World.{World, NoBlock, Making, InUse, Parting, Cutting, Event, Begin, Step, Makes, Drops, Links, Parts, Unlinks, Rewrites, Operates, Ends, LeavesOver, Relinks, Clears, Chooses, Happens, Runs, made_by}
use Rattle.run_effects.specs.Given.RuleInWorld.{AllUsers}
use Rattle.run_effects.proofs.Given.RuleWorld.Hands.{at_cases}
use Rattle.run_shows.specs.Follows.Blocks.{WasLinked}

module _ {T : Type 0} (defers : T → Option ℕ) (b : ℕ) where
  -- it is there, and was linked
  pub record IsThere (w : World T) : Type 0 where
    pub some : IsSome (value_at w.memory b)
    pub linked : WasLinked (w.hand b)

  abbrev pub StaysSo : World T → World T → Type 0
  StaysSo w w2 = (value_at w2.memory b ≡ value_at w.memory b) × WasLinked (w2.hand b)

  -- one that somebody has made is another one
  apart : (w : World T) → IsThere w → (x i : ℕ) → w.hand x ≡ Making i → b ≢ x
  apart w h x i making e = subst WasLinked (ap w.hand e ∙ making) h.linked

  none_some : {o : Option T} → IsSome o → o ≡ None → ⊥
  none_some some none = (let it : IsSome {T = T} None = subst (λ (o : Option T). IsSome o) none some in cc it)

  made_so : (w : World T) → IsThere w → (i : ℕ) (value : T) (words : ℕ) (out : Out T) (m : Mem T) → Took w.memory (Make value words) out m → StaysSo w (made_by defers w i m out)
  made_so w h i value words (Made (Ok x)) m took = (
    made_value defers w.memory b value words (Made (Ok x)) m h.some took,
    at_cases WasLinked w.hand x (Making i) b (λ e. absurd (new e)) (λ ne. h.linked),
  )
    where
      new : b ≢ x
      new e = none_some h.some (ap (value_at w.memory) e ∙ ap value_in took.0.0.0)
  made_so w h i value words (Made (Err back)) m took = (made_value defers w.memory b value words (Made (Err back)) m h.some took, h.linked)
  made_so w h i value words _ m took = absurd took.0

  event_stays : (size : ℕ) (e : Event T) (w w2 : World T) → IsUsers e → Happens defers size e w w2 → IsThere w → StaysSo w w2
  event_stays size (Begin i request) w w2 users e h = absurd users
  event_stays size (Step i) w w2 users e h = absurd users
  event_stays size (Makes i value words) w w2 users e h = subst (StaysSo w) (sym e.4) (made_so w h i value words e.0 e.1 e.3)
  event_stays size (Drops i x) w w2 users e h =
      let other = apart w h x e.2.0 e.2.1 in
      subst (StaysSo w) (sym e.4) (taken_value defers w.memory b x e.0 e.1 e.3 other, at_cases WasLinked w.hand x NoBlock b (λ same. absurd (other same)) (λ ne. h.linked))
  event_stays size (Links i x o) w w2 users e h = subst (StaysSo w) (sym e.1) (refl, at_cases WasLinked w.hand x (InUse o) b (λ same. tt) (λ ne. h.linked))
  event_stays size (Parts i x) w w2 users e h = subst (StaysSo w) (sym e.1) (refl, at_cases WasLinked w.hand x (Parting i) b (λ same. tt) (λ ne. h.linked))
  event_stays size (Unlinks i x) w w2 users e h = subst (StaysSo w) (sym e.1) (refl, at_cases WasLinked w.hand x (Cutting i) b (λ same. tt) (λ ne. h.linked))
  event_stays size (Rewrites i x value) w w2 users e h =
      subst (StaysSo w) (sym e.5) (rewritten_value defers w.memory b x value e.0 e.1 e.3 (apart w h x e.2.0 e.2.1), h.linked)
  event_stays size (Operates op) w w2 users e h = subst (StaysSo w) (sym e.4) (ap (λ (k : Mem T). value_at k b) e.3.1 ∙ own_op_value defers w.memory b op e.0 e.2, h.linked)
  event_stays size (Ends i o) w w2 users e h = absurd users
  event_stays size (LeavesOver i x further) w w2 users e h = absurd users
  event_stays size (Relinks i x word) w w2 users e h = absurd users
  event_stays size (Clears i x) w w2 users e h = absurd users
  event_stays size (Chooses choice) w w2 users e h = subst (StaysSo w) (sym e) (refl, h.linked)

  pub events_stay : (size : ℕ) (events : List (Event T)) (w w2 : World T) → AllUsers events → Runs defers size events w w2 → IsThere w → StaysSo w w2
  events_stay size [] w w2 users runs h = subst (StaysSo w) (sym runs) (refl, h.linked)
  events_stay size (e ∷ events) w w2 users runs h =
      let first = event_stays size e w runs.0 users.0 runs.1 h in
      let rest = events_stay size events runs.0 w2 users.1 runs.2 (record { some = subst (λ (o : Option T). IsSome o) (sym first.0) h.some; linked = first.1 }) in (rest.0 ∙ first.0, rest.1)
