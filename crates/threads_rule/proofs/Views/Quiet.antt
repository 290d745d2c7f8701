-- What ends no section: events of users, and steps of rows that retire or defer a block. What sections hold stays, with its value and its owner.
use Rattle.std.specs.Prelude.{◌++◌, IsSome, Option, Ok, Err, cond, eqb, if◌then◌else◌}
use Rattle.std.proofs.Common.{◌≡◌, ℕ, ◌+◌, Bool, true, false, List, [], ◌∷◌, ◌⊎◌, inl, inr, refl, sym, subst, ap, arith, ◌∙◌}
use Rattle.std.proofs.lemmas.Bool.{eq-eqb, ne_eqb}
use Rattle.seize_words.specs.OneMemory.Op.{Out, Found, Stored, Exchanged, Made, Taken, Roomed}
use Rattle.seize_words.specs.OneMemory.Mem.{Mem, value_at}
use Rattle.seize.specs.declared.states.TheConstants.{LAST_SLOT}
use Rattle.seize.specs.Law.{Effect, Entered, Left, Made as MadeBlock, Linked, Unlinked, Deferred, Retired, Taken as TakenBlock, Dropped, Ended, LeftOver, holds, is_open, owner_of}
use Rattle.seize.specs.Sequence.{IsUsers}
use Rattle.seize.specs.World.{World, Hand, Making, Event, Begin, Step, Makes, Drops, Links, Parts, Unlinks, Rewrites, Operates, Ends, LeavesOver, Relinks, Clears, Chooses, Request, Retire, Defer', Happens, Runs, IsInside, made_by}
use Rattle.seize_model.proofs.Given.SeizeMovesMoves.Blocks.{never_held}
use Rattle.seize_model.proofs.Given.SeizeMovesState.Ghost.{IsOwned}
use Rattle.seize_model.proofs.Given.SeizeMovesState.Held.{held_on, NoneLeft}
use Rattle.seize_model.proofs.Given.SeizeRulePoints.Aside.{HandFits}
use Rattle.seize_model.proofs.Given.SeizeRuleRows.Effects.{IsOneStep}
use Rattle.seize_model.proofs.Given.SeizeRuleWorld.Values.{own_op_value, taken_value, made_value, rewritten_value}
use Rattle.seize_model.proofs.Alone.Histories.Reached.{Reached, happens_reached}
use Rattle.seize_model.proofs.Alone.Histories.NotTaken.{IsHeld, kept_there, kept_value, still_held, did}
use Rattle.seize_acts.specs.Acts.Stays.{how_many, is_end_of}
use Rattle.many_acts.proofs.Given.CallersTogether.Handed.{inside_on as more_inside}
use Rattle.seize_model.proofs.Alone.Histories.UsersTurn.{AreUsers as AllOfUsers}

not_ended : (s : ℕ) (effects log : List Effect) → NoneLeft s effects → how_many (is_end_of s) (effects ++ log) ≡ how_many (is_end_of s) log
not_ended s [] log n = refl
not_ended s (Left t ∷ effects) log n = let rest = not_ended s effects log n.1 in let ne = n.0 in grind (arith, rest, ne)
not_ended s (Entered t ∷ effects) log n = not_ended s effects log n.1
not_ended s (MadeBlock c ∷ effects) log n = not_ended s effects log n.1
not_ended s (Linked c o ∷ effects) log n = not_ended s effects log n.1
not_ended s (Unlinked c ∷ effects) log n = not_ended s effects log n.1
not_ended s (Deferred c t ∷ effects) log n = not_ended s effects log n.1
not_ended s (Retired c ∷ effects) log n = not_ended s effects log n.1
not_ended s (TakenBlock c ∷ effects) log n = not_ended s effects log n.1
not_ended s (Dropped c ∷ effects) log n = not_ended s effects log n.1
not_ended s (Ended o ∷ effects) log n = not_ended s effects log n.1
not_ended s (LeftOver c further ∷ effects) log n = not_ended s effects log n.1

-- a step of a row leaves the owners of blocks as they are
same_owner : (b : ℕ) (effects log : List Effect) → IsOneStep effects → owner_of b (effects ++ log) ≡ owner_of b log
same_owner b [] log one = refl
same_owner b (e ∷ f ∷ effects) log one = absurd one
same_owner b (Entered s ∷ []) log one = refl
same_owner b (Left s ∷ []) log one = refl
same_owner b (Retired c ∷ []) log one = refl
same_owner b (TakenBlock c ∷ []) log one = refl
same_owner b (MadeBlock c ∷ []) log one = absurd one
same_owner b (Linked c p ∷ []) log one = absurd one
same_owner b (Unlinked c ∷ []) log one = absurd one
same_owner b (Deferred c t ∷ []) log one = absurd one
same_owner b (Dropped c ∷ []) log one = absurd one
same_owner b (Ended p ∷ []) log one = absurd one
same_owner b (LeftOver c further ∷ []) log one = absurd one

module _ {T : Type 0} (defers : T → Option ℕ) (size : ℕ) where
  -- the block is held on, with its owner and its value
  abbrev pub KeptSo : World T → World T → ℕ → ℕ → Type 0
  KeptSo w v t b = (holds t b v.log ≡ true) × (owner_of b v.log ≡ owner_of b w.log) × (value_at v.memory b ≡ value_at w.memory b)

  -- a section that somebody is inside has not ended, and holds what it held
  abbrev pub Stayed : World T → World T → ℕ → Type 0
  Stayed w v t = (how_many (is_end_of t) v.log ≡ how_many (is_end_of t) w.log) × ((b : ℕ) → holds t b w.log ≡ true → KeptSo w v t b)

  as_it_was : (w v u : World T) (t : ℕ) → v ≡ u → Stayed w u t → Stayed w v t
  as_it_was w v u t is h = subst (λ (x : World T). Stayed w x t) (sym is) h

  module _ (w : World T) (r : Reached defers size w) (t : ℕ) where
    -- a block that is not linked yet is another one than a section holds
    not_making : (b : ℕ) → holds t b w.log ≡ true → (c : ℕ) → ((i : ℕ) × (w.hand c ≡ Making i)) → eqb b c ≡ false
    not_making b held c has = ne_eqb b c other
      where
        other : b ≡ c → ⊥
        other e =
            let life : r.good.state.life c ≡ IsOwned has.0 = subst (λ (k : Hand). HandFits k (r.good.state.life c)) has.1 (r.good.hands c) in
            let none = never_held (LAST_SLOT + 1) has.0 r.good.state c r.good.inv life t in
            cc (subst (λ (l : List Effect). holds t c l ≡ false) r.good.logged none, subst (λ (d : ℕ). holds t d w.log ≡ true) e held)

    apart : (b c : ℕ) → eqb b c ≡ false → b ≡ c → ⊥
    apart b c other e = cc (other, subst (λ (d : ℕ). eqb b d ≡ true) e (eq-eqb b b refl))

    pub held_is_linked : (b : ℕ) → holds t b w.log ≡ true → (k : ℕ) → w.hand b ≡ Making k → ⊥
    held_is_linked b held k is = let other = not_making b held b (k, is) in let one = eq-eqb b b refl in cc (other, one)

    pub there : (b : ℕ) → holds t b w.log ≡ true → IsSome (value_at w.memory b)
    there b held = kept_there defers size w r b (IsHeld t held)

    made_stays : (i : ℕ) (m : Mem T) (out : Out T) → ((b : ℕ) → holds t b w.log ≡ true → value_at m b ≡ value_at w.memory b) → Stayed w (made_by defers w i m out) t
    made_stays i m (Made (Ok c)) same = (refl, λ b held. (held, refl, same b held))
    made_stays i m (Made (Err x)) same = (refl, λ b held. (held, refl, same b held))
    made_stays i m (Found x) same = (refl, λ b held. (held, refl, same b held))
    made_stays i m Stored same = (refl, λ b held. (held, refl, same b held))
    made_stays i m (Exchanged x) same = (refl, λ b held. (held, refl, same b held))
    made_stays i m (Taken x) same = (refl, λ b held. (held, refl, same b held))
    made_stays i m (Roomed x) same = (refl, λ b held. (held, refl, same b held))

    user_stays : (e : Event T) (v : World T) → IsUsers e → Happens defers size e w v → Stayed w v t
    user_stays (Begin i request) v is h = absurd is
    user_stays (Step i) v is h = absurd is
    user_stays (Ends i o) v is h = absurd is
    user_stays (LeavesOver i b further) v is h = absurd is
    user_stays (Relinks i b word) v is h = absurd is
    user_stays (Clears i b) v is h = absurd is
    user_stays (Makes i value words) v is h =
        as_it_was w v _ t h.4 (made_stays i h.1 h.0 (λ b held. made_value defers w.memory b value words h.0 h.1 (there b held) h.3))
    user_stays (Drops i c) v is h =
        as_it_was w v _ t h.4 (
          refl,
          λ b held.
              let other = not_making b held c h.2 in
              (ap (λ (q : Bool). cond q false (holds t b w.log)) other ∙ held, refl, taken_value defers w.memory b c h.0 h.1 h.3 (apart b c other)),
        )
    user_stays (Links i c o) v is h =
        as_it_was w v _ t h.1 (
          refl,
          λ b held.
              let other = not_making b held c h.0 in
              (ap (λ (q : Bool). cond q (is_open t w.log) (holds t b w.log)) other ∙ held, ap (λ (q : Bool). cond q o (owner_of b w.log)) other, refl),
        )
    user_stays (Parts i c) v is h = as_it_was w v _ t h.1 (refl, λ b held. (held, refl, refl))
    user_stays (Unlinks i c) v is h = as_it_was w v _ t h.1 (refl, λ b held. (held, refl, refl))
    user_stays (Rewrites i c value) v is h =
        as_it_was w v _ t h.5 (refl, λ b held. (held, refl, rewritten_value defers w.memory b c value h.0 h.1 h.3 (apart b c (not_making b held c h.2))))
    user_stays (Operates op) v is h =
        as_it_was w v _ t h.4 (refl, λ b held. (held, refl, ap (λ (m : Mem T). value_at m b) h.3.1 ∙ own_op_value defers w.memory b op h.0 h.2))
    user_stays (Chooses choice) v is h = as_it_was w v _ t h (refl, λ b held. (held, refl, refl))

  pub users_stay : (events : List (Event T)) (w v : World T) → Reached defers size w → AllOfUsers events → Runs defers size events w v → (t : ℕ) → Stayed w v t
  users_stay [] w v r is h t = as_it_was w v w t h (refl, λ b held. (held, refl, refl))
  users_stay (e ∷ events) w v r is h t =
      let a = user_stays w r t e h.0 is.0 h.1 in
      let b = users_stay events h.0 v (happens_reached defers size e w h.0 r h.1) is.1 h.2 t in
      (b.0 ∙ a.0, λ c held. let k = a.1 c held in let l = b.1 c k.0 in (l.0, l.1 ∙ k.1, l.2 ∙ k.2))

  pub step_stays : (w v : World T) (i : ℕ) → Reached defers size w → Happens defers size (Step i) w v → (t : ℕ) → IsInside (w.uses t) → Stayed w v t
  step_stays w v i r h t inside =
      let d = did defers size w r i v h in (
        ap (how_many (is_end_of t)) d.logged ∙ not_ended t d.effects w.log (d.goes_on t inside),
        λ b held. (still_held defers size w r i v h t b inside held, ap (owner_of b) d.logged ∙ same_owner b d.effects w.log d.one, kept_value defers size w r i v h b (IsHeld t held)),
      )

  -- a row retires a block, or defers one
  abbrev pub HandsOne : Request → Type 0
  HandsOne (Retire s b) = Unit {0}
  HandsOne (Defer' s b c) = Unit {0}
  HandsOne _ = ⊥

  begin_stays : (request : Request) (w v : World T) (i : ℕ) → HandsOne request → Happens defers size (Begin i request) w v → (t : ℕ) → IsInside (w.uses t) → IsInside (v.uses t) × Stayed w v t
  begin_stays (Retire s b) w v i is h t inside =
      subst (λ (x : World T). IsInside (x.uses t) × Stayed w x t) (sym h.1.2) (more_inside w.uses s t inside, (refl, λ c held. (held, refl, refl)))
  begin_stays (Defer' s b c) w v i is h t inside =
      subst (λ (x : World T). IsInside (x.uses t) × Stayed w x t) (sym h.1.7)
      (more_inside w.uses s t inside, (refl, λ d held. (held_on t d (Deferred b c) w.log tt held, refl, refl)))
  begin_stays _ w v i is h t inside = absurd is

  -- a step of a row, or its beginning and first step
  pub row_stays : (w v : World T) (i : ℕ) → Reached defers size w
      → Happens defers size (Step i) w v ⊎ ((request : Request) × (begun : World T) × HandsOne request × Happens defers size (Begin i request) w begun × Happens defers size (Step i) begun v)
      → (t : ℕ) → IsInside (w.uses t) → Stayed w v t
  row_stays w v i r (inl h) t inside = step_stays w v i r h t inside
  row_stays w v i r (inr (request, begun, hands, first, then_)) t inside =
      let a = begin_stays request w begun i hands first t inside in
      let b = step_stays begun v i (happens_reached defers size (Begin i request) w begun r first) then_ t a.0 in
      (b.0 ∙ a.1.0, λ c held. let k = a.1.1 c held in let l = b.1 c k.0 in (l.0, l.1 ∙ k.1, l.2 ∙ k.2))
