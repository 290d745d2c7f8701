-- What events unlink can't be reached behind them: none of users links it again, and rows unlink nothing.
use Rattle.std.specs.Prelude.{Option, Ok, Err, is_some}
use Rattle.std.proofs.Common.{◌≡◌, ◌≢◌, ◌⊎◌, ℕ, suc, Bool, true, false, cond, eqb, List, [], ◌∷◌, ◌++◌, inl, inr, refl, ap, sym, subst, ◌∙◌}
use Rattle.std.proofs.lemmas.Bool.{cases_eq, eq-eqb, ne_eqb}
use Rattle.run_shows.specs.Given.SeizeWordsMem.{Mem, Took, value_in, value_at}
use Rattle.run_shows.specs.Given.SeizeWordsOp.{Out, Make, Found, Stored, Exchanged, Made, Taken, Roomed}
use Rattle.run_shows.specs.Given.SeizeLaw as law
use Rattle.run_shows.specs.Given.SeizeLaw.{Effect, is_somewhere, reachable, Linked, Unlinked, Deferred, Dropped, Ended, LeftOver}
use Rattle.run_shows.specs.Given.SeizeSequence.{IsUsers}
use Rattle.run_shows.specs.Given.SeizeWorld.{World, Hand, NoBlock, Making, InUse, Parting, Cutting, Handed, LeftTo, Request, Event, Begin, Step, Makes, Drops, Links, Parts, Unlinks, Rewrites, Operates, Ends, LeavesOver, Relinks, Clears, Chooses, MayCut, Happens, Runs, Steps', Begins, Register', Enter', Leave', LeaveOwned, Refresh, Unregister', Retire, Flush, Defer', made_by, with_at}
use Rattle.seize_acts.proofs.Given.SeizeRuleRows.Effects.{IsOneStep}
use Rattle.seize_acts.proofs.Given.SeizeAloneHistories.NotTaken.{did}
use Rattle.seize_acts.proofs.Given.SeizeAloneHistories.Reached.{Reached, happens_reached}
use Rattle.run_shows.specs.Given.RuleInWorld.{AllUsers}
use Rattle.run_shows.proofs.Given.RuleWorld.Hands.{at_cases}
use Rattle.many_acts.specs.Links.Tied.{unlinkings}
use Rattle.many_acts.proofs.Links.Places.{IsGone, gone_there, cut_nowhere}

-- one step of a row unlinks nothing
unlinks_none : (b : ℕ) (effects log : List Effect) → IsOneStep effects → unlinkings b (effects ++ log) ≡ unlinkings b log
unlinks_none b [] log one = refl
unlinks_none b (law.Entered c ∷ []) log one = refl
unlinks_none b (law.Left c ∷ []) log one = refl
unlinks_none b (law.Made c ∷ []) log one = refl
unlinks_none b (Linked c o ∷ []) log one = refl
unlinks_none b (Unlinked c ∷ []) log one = absurd one
unlinks_none b (Deferred c t ∷ []) log one = refl
unlinks_none b (law.Retired c ∷ []) log one = refl
unlinks_none b (law.Taken c ∷ []) log one = refl
unlinks_none b (Dropped c ∷ []) log one = refl
unlinks_none b (Ended o ∷ []) log one = refl
unlinks_none b (LeftOver c further ∷ []) log one = refl
unlinks_none b (e ∷ f ∷ effects) log one = absurd one

-- what may be unlinked was not
cut_not_gone : (i : ℕ) (h : Hand) → MayCut i h → IsGone h → ⊥
cut_not_gone i NoBlock may gone = may
cut_not_gone i (Making k) may gone = may
cut_not_gone i (InUse o) may gone = gone
cut_not_gone i (Parting k) may gone = gone
cut_not_gone i (Cutting k) may gone = may
cut_not_gone i Handed may gone = may
cut_not_gone i (LeftTo k) may gone = may

-- so often it was unlinked before, or it could be reached, and can't be any more
abbrev pub IsCutOff : {T : Type 0} → ℕ → World T → World T → Type 0
IsCutOff b w w2 = (unlinkings b w2.log ≡ unlinkings b w.log) ⊎ ((reachable b w.log ≡ true) × (reachable b w2.log ≡ false))

module _ {T : Type 0} (defers : T → Option ℕ) (size b : ℕ) where
  -- The beginning of a row unlinks nothing,
  pub begin_none : (i : ℕ) (request : Request) (w w2 : World T) → Begins defers size i request w w2 → unlinkings b w2.log ≡ unlinkings b w.log
  begin_none i (Register' enters) w w2 h = ap (λ (x : World T). unlinkings b x.log) h
  begin_none i (Enter' s) w w2 h = ap (λ (x : World T). unlinkings b x.log) h.1
  begin_none i (Leave' s) w w2 h = ap (λ (x : World T). unlinkings b x.log) h.1
  begin_none i (LeaveOwned s) w w2 h = ap (λ (x : World T). unlinkings b x.log) h.1
  begin_none i (Refresh s) w w2 h = ap (λ (x : World T). unlinkings b x.log) h.1
  begin_none i (Unregister' s) w w2 h = ap (λ (x : World T). unlinkings b x.log) h.1
  begin_none i (Retire s c) w w2 h = ap (λ (x : World T). unlinkings b x.log) h.2
  begin_none i (Flush s) w w2 h = ap (λ (x : World T). unlinkings b x.log) h.1
  begin_none i (Defer' s c t) w w2 h = ap (λ (x : World T). unlinkings b x.log) h.7

  -- nor does a step of one.
  pub step_none : (i : ℕ) (w w2 : World T) → Reached defers size w → Steps' defers i (w.row i) w w2 → unlinkings b w2.log ≡ unlinkings b w.log
  step_none i w w2 r step = let d = did defers size w r i w2 step in ap (unlinkings b) d.logged ∙ unlinks_none b d.effects w.log d.one

  made_none : (w : World T) (i : ℕ) (m : Mem T) (out : Out T) → unlinkings b (made_by defers w i m out).log ≡ unlinkings b w.log
  made_none w i m (Made (Ok c)) = refl
  made_none w i m (Made (Err back)) = refl
  made_none w i m (Found word) = refl
  made_none w i m Stored = refl
  made_none w i m (Exchanged result) = refl
  made_none w i m (Taken value) = refl
  made_none w i m (Roomed result) = refl

  -- who could unlink it has done so, and has it then
  abbrev pub IsUnlinkedBy : Event T → World T → World T → Type 0
  IsUnlinkedBy e w w2 = (i : ℕ) × (e ≡ Unlinks i b) × MayCut i (w.hand b) × (w2.hand b ≡ Cutting i)

  -- An event of users unlinks it, or not.
  pub user_event : (e : Event T) (w w2 : World T) → IsUsers e → Happens defers size e w w2 → (unlinkings b w2.log ≡ unlinkings b w.log) ⊎ IsUnlinkedBy e w w2
  user_event (Begin i request) w w2 user h = absurd user
  user_event (Step i) w w2 user h = absurd user
  user_event (Makes i value words) w w2 user h = inl (ap (λ (x : World T). unlinkings b x.log) h.4 ∙ made_none w i h.1 h.0)
  user_event (Drops i c) w w2 user h = inl (ap (λ (x : World T). unlinkings b x.log) h.4)
  user_event (Links i c o) w w2 user h = inl (ap (λ (x : World T). unlinkings b x.log) h.1)
  user_event (Parts i c) w w2 user h = inl (ap (λ (x : World T). unlinkings b x.log) h.1)
  user_event (Unlinks i c) w w2 user h = by (cases_eq b c)
    where
      hand : w2.hand b ≡ with_at w.hand c (Cutting i) b
      hand = ap (λ (x : World T). x.hand b) h.1

      log : unlinkings b w2.log ≡ cond (eqb b c) (suc (unlinkings b w.log)) (unlinkings b w.log)
      log = ap (λ (x : World T). unlinkings b x.log) h.1

      by : (b ≡ c) ⊎ (b ≢ c) → (unlinkings b w2.log ≡ unlinkings b w.log) ⊎ IsUnlinkedBy (Unlinks i c) w w2
      by (inl e) = inr (i, ap (λ (x : ℕ). Unlinks i x) (sym e), subst (λ (x : ℕ). MayCut i (w.hand x)) (sym e) h.0, hand ∙ ap (λ (q : Bool). cond q (Cutting i) (w.hand b)) (eq-eqb b c e))
      by (inr ne) = inl (log ∙ ap (λ (q : Bool). cond q (suc (unlinkings b w.log)) (unlinkings b w.log)) (ne_eqb b c ne))
  user_event (Rewrites i c value) w w2 user h = inl (ap (λ (x : World T). unlinkings b x.log) h.5)
  user_event (Operates op) w w2 user h = inl (ap (λ (x : World T). unlinkings b x.log) h.4)
  user_event (Ends i o) w w2 user h = absurd user
  user_event (LeavesOver i c further) w w2 user h = absurd user
  user_event (Relinks i c word) w w2 user h = absurd user
  user_event (Clears i c) w w2 user h = absurd user
  user_event (Chooses choice) w w2 user h = inl (ap (λ (x : World T). unlinkings b x.log) h)

  -- Who has it once it is unlinked has it behind such an event: it is there, so its number is no new block's.
  module _ (hand : Hand) (gone : IsGone hand) where
    put_kept : (w : World T) (c : ℕ) (h : Hand) → (w.hand c ≡ hand → ⊥) → w.hand b ≡ hand → with_at w.hand c h b ≡ hand
    put_kept w c h other is = at_cases (λ (x : Hand). x ≡ hand) w.hand c h b (λ e. absurd (other (ap w.hand (sym e) ∙ is))) (λ ne. is)

    -- it is in no such hand
    not_in : (w : World T) (c : ℕ) (h : Hand) → (IsGone h → ⊥) → w.hand c ≡ h → w.hand c ≡ hand → ⊥
    not_in w c h other is e = other (subst IsGone (sym e ∙ is) gone)

    made_kept : (w : World T) → Reached defers size w → (i : ℕ) (m : Mem T) (value : T) (words : ℕ) (out : Out T) → Took w.memory (Make value words) out m
        → w.hand b ≡ hand → (made_by defers w i m out).hand b ≡ hand
    made_kept w r i m value words (Made (Ok c)) took is = put_kept w c (Making i) fresh is
      where
        fresh : w.hand c ≡ hand → ⊥
        fresh e =
            let there = gone_there defers size w r c (subst IsGone (sym e) gone) in
            let none : is_some (value_at w.memory c) ≡ false = ap is_some (ap value_in took.0.0.0) in cc (none, there)
    made_kept w r i m value words (Made (Err back)) took is = is
    made_kept w r i m value words (Found word) took is = is
    made_kept w r i m value words Stored took is = is
    made_kept w r i m value words (Exchanged result) took is = is
    made_kept w r i m value words (Taken block) took is = is
    made_kept w r i m value words (Roomed result) took is = is

    event_kept : (e : Event T) (w w2 : World T) → Reached defers size w → IsUsers e → Happens defers size e w w2 → w.hand b ≡ hand → w2.hand b ≡ hand
    event_kept (Begin i request) w w2 r user h is = absurd user
    event_kept (Step i) w w2 r user h is = absurd user
    event_kept (Makes i value words) w w2 r user h is = ap (λ (x : World T). x.hand b) h.4 ∙ made_kept w r i h.1 value words h.0 h.3 is
    event_kept (Drops i c) w w2 r user h is = ap (λ (x : World T). x.hand b) h.4 ∙ put_kept w c NoBlock (not_in w c (Making h.2.0) (λ no_way. no_way) h.2.1) is
    event_kept (Links i c o) w w2 r user h is = ap (λ (x : World T). x.hand b) h.1 ∙ put_kept w c (InUse o) (not_in w c (Making h.0.0) (λ no_way. no_way) h.0.1) is
    event_kept (Parts i c) w w2 r user h is = ap (λ (x : World T). x.hand b) h.1 ∙ put_kept w c (Parting i) (not_in w c (InUse h.0.0) (λ no_way. no_way) h.0.1) is
    event_kept (Unlinks i c) w w2 r user h is = ap (λ (x : World T). x.hand b) h.1 ∙ put_kept w c (Cutting i) (λ e. cut_not_gone i hand (subst (MayCut i) e h.0) gone) is
    event_kept (Rewrites i c value) w w2 r user h is = ap (λ (x : World T). x.hand b) h.5 ∙ is
    event_kept (Operates op) w w2 r user h is = ap (λ (x : World T). x.hand b) h.4 ∙ is
    event_kept (Ends i o) w w2 r user h is = absurd user
    event_kept (LeavesOver i c further) w w2 r user h is = absurd user
    event_kept (Relinks i c word) w w2 r user h is = absurd user
    event_kept (Clears i c) w w2 r user h is = absurd user
    event_kept (Chooses choice) w w2 r user h is = ap (λ (x : World T). x.hand b) h ∙ is

    pub hand_kept : (events : List (Event T)) (w w2 : World T) → Reached defers size w → AllUsers events → Runs defers size events w w2 → w.hand b ≡ hand → w2.hand b ≡ hand
    hand_kept [] w w2 r users runs is = ap (λ (x : World T). x.hand b) runs ∙ is
    hand_kept (e ∷ events) w w2 r users runs is =
        hand_kept events runs.0 w2 (happens_reached defers size e w runs.0 r runs.1) users.1 runs.2 (event_kept e w runs.0 r users.0 runs.1 is)

    -- and it is not unlinked again
    pub none_again : (events : List (Event T)) (w w2 : World T) → Reached defers size w → AllUsers events → Runs defers size events w w2 → w.hand b ≡ hand
        → unlinkings b w2.log ≡ unlinkings b w.log
    none_again [] w w2 r users runs is = ap (λ (x : World T). unlinkings b x.log) runs
    none_again (e ∷ events) w w2 r users runs is =
        none_again events runs.0 w2 (happens_reached defers size e w runs.0 r runs.1) users.1 runs.2 (event_kept e w runs.0 r users.0 runs.1 is)
        ∙ first (user_event e w runs.0 users.0 runs.1)
      where
        first : (unlinkings b runs.0.log ≡ unlinkings b w.log) ⊎ IsUnlinkedBy e w runs.0 → unlinkings b runs.0.log ≡ unlinkings b w.log
        first (inl same) = same
        first (inr (i, is_it, may, cut)) = absurd (cut_not_gone i hand (subst (MayCut i) is may) gone)

  -- so often it was unlinked before such events, or a holder has it behind them
  pub users_cut : (events : List (Event T)) (w w2 : World T) → Reached defers size w → AllUsers events → Runs defers size events w w2
      → (unlinkings b w2.log ≡ unlinkings b w.log) ⊎ ((i : ℕ) × (w2.hand b ≡ Cutting i))
  users_cut [] w w2 r users runs = inl (ap (λ (x : World T). unlinkings b x.log) runs)
  users_cut (e ∷ events) w w2 r users runs = by (user_event e w v users.0 runs.1) (users_cut events v w2 r1 users.1 runs.2)
    where
      v : World T
      v = runs.0

      r1 : Reached defers size v
      r1 = happens_reached defers size e w v r runs.1

      then : (unlinkings b w2.log ≡ unlinkings b v.log) ⊎ ((i : ℕ) × (w2.hand b ≡ Cutting i)) → unlinkings b v.log ≡ unlinkings b w.log
          → (unlinkings b w2.log ≡ unlinkings b w.log) ⊎ ((i : ℕ) × (w2.hand b ≡ Cutting i))
      then (inl same) e = inl (same ∙ e)
      then (inr cut) e = inr cut

      by : (unlinkings b v.log ≡ unlinkings b w.log) ⊎ IsUnlinkedBy e w v → (unlinkings b w2.log ≡ unlinkings b v.log) ⊎ ((i : ℕ) × (w2.hand b ≡ Cutting i))
          → (unlinkings b w2.log ≡ unlinkings b w.log) ⊎ ((i : ℕ) × (w2.hand b ≡ Cutting i))
      by (inl same) later = then later same
      by (inr (i, is_it, may, cut)) later = inr (i, hand_kept (Cutting i) tt events v w2 r1 users.1 runs.2 cut)

  -- and it can't be reached then
  pub cut_unreached : (w : World T) → Reached defers size w → (i : ℕ) → w.hand b ≡ Cutting i → reachable b w.log ≡ false
  cut_unreached w r i cut = ap is_somewhere (cut_nowhere defers size w r b i cut)
