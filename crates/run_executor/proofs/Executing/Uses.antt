-- How slots are used: where nobody has anything under way in a slot, no row works on it; and slots are used as noted, once one is used otherwise.
use Rattle.std.specs.Prelude.{◌≡◌, ◌≢◌, ◌<◌, ◌+◌, ◌⊎◌, ℕ, Bool, true, List, [], length, Option, slice_index_or, slice_set}
use Rattle.std.proofs.Common.{refl, sym, ap, subst, ◌∙◌, inl, inr, arith}
use Rattle.std.proofs.lemmas.Bool.{cases_eq}
use Rattle.std.proofs.lemmas.List.{get_or-set_other, get_or-set_same}
use Rattle.seize.specs.Law.{is_open}
use Rattle.seize.specs.World.{Row, Rests, Registers, Enters, Settles, Leaves, Defers, Frees, Use, Outside, Inside, IsTaken, with_at}
use Rattle.run_places.specs.Given.SeizeWaitingHeld.{same as alike}
use Rattle.run_places.proofs.Given.SeizeMovesState.Ghost.{emptied}
use Rattle.run_places.proofs.Given.SeizeRuleRows.Known.{works_on}
use Rattle.run_places.proofs.Given.SeizeRuleRows.Teams.{UseFits, shares, is_shared}
use Rattle.run_places.proofs.Given.SeizeAloneHistories.Reached.{Reached}
use Rattle.papaya_raw.specs.Given.TablesNodes.{deferred_word}
use Rattle.run_places.proofs.Given.CallersTogether.At.{at_other, at_same}
use Rattle.run_places.proofs.Given.CallersTogether.Came.{came_reached}
use Rattle.run_places.specs.Given.CallersRows.{IsRowOn}
use Rattle.run_executor.specs.declared.executor.Executor.{Executor}
use Rattle.run_places.specs.Given.ScenesDeclared.row.SlotUse.{SlotUse}
use Rattle.run_places.specs.Given.ScenesDeclared.row.SlotUse.TheVariants as used
use Rattle.run_executor.specs.declared.worker.Work.{Work}
use Rattle.run_executor.specs.Executing.IsThere.{HasRow, IsThere, IsUsedAs, use_at}
use Rattle.run_executor.specs.Executing.OnSlots.{NobodyIn}
use Rattle.run_places.specs.Given.ScenesScene.{Scene, slot_of}
use Rattle.run_places.proofs.Given.SeizeSetsTurns.Heads.{nobody as no_team}

not_alike : (a b : ℕ) → a ≢ b → alike a b ≡ 0
not_alike a b ne = grind (arith, ne)

-- a slot is used as noted, and so is one that is used otherwise then
pub used_then : (slots : List SlotUse) (uses : ℕ → Use) → ((t : ℕ) → IsUsedAs (slice_index_or slots t used.Vacant) (uses t)) → (slot : ℕ) → slot < length slots
    → (v : SlotUse) (u : Use) → IsUsedAs v u → (t : ℕ) → IsUsedAs (slice_index_or (slice_set slots slot v) t used.Vacant) (with_at uses slot u t)
used_then slots uses all slot within v u is t = by (cases_eq t slot)
  where
    by : (t ≡ slot) ⊎ (t ≢ slot) → IsUsedAs (slice_index_or (slice_set slots slot v) t used.Vacant) (with_at uses slot u t)
    by (inl e) =
        subst (λ (x : Use). IsUsedAs (slice_index_or (slice_set slots slot v) t used.Vacant) x) (sym (at_same uses slot u t e))
        (subst (λ (x : SlotUse). IsUsedAs x u)
        (sym (ap (λ (x : ℕ). slice_index_or (slice_set slots slot v) x used.Vacant) e ∙ get_or-set_same slots slot v used.Vacant within)) is)
    by (inr ne) =
        subst (λ (x : Use). IsUsedAs (slice_index_or (slice_set slots slot v) t used.Vacant) x) (sym (at_other uses slot u t ne))
        (subst (λ (x : SlotUse). IsUsedAs x (uses t)) (sym (get_or-set_other slots slot t v used.Vacant ne)) (all t))

module _ {K V S : Type 0} (same : K → K → Bool) (hash : K → ℕ) (e : Executor K V S) (s : Scene K V) (at : IsThere same hash e s) where
  pub reached : Reached deferred_word e.batch_size s.world
  reached = came_reached e.batch_size s.world at.held.together.makings.standing.came

  module _ (slot : ℕ) (nobody : NobodyIn e slot) (shared : is_shared (s.world.uses slot) ≡ true) where
    -- who works on the slot has something under way in it
    none_works : (i : ℕ) → works_on (s.world.row i) ≢ slot + 1
    none_works i on = by (s.world.row i) refl on (reached.good.used.kinds i slot on ∙ shared)
      where
        not_its : (row : Row) → s.world.row i ≡ row → (row ≡ Rests → ⊥) → slot_of i ≢ slot
        not_its row is works its = works (sym is ∙ subst (λ (x : Option (Work K V)). HasRow x (s.world.row i)) (nobody i its) (at.rows i))

        by : (row : Row) → s.world.row i ≡ row → works_on row ≡ slot + 1 → shares row ≡ true → ⊥
        by Rests is on shared = cc shared
        by (Registers c) is on shared = cc shared
        by (Enters c) is on shared = cc shared
        by (Settles c) is on shared = not_its (Settles c) is (λ r. cc r) (sym (subst (IsRowOn (slot_of i)) is (at.held.on_slots i)) ∙ omega (arith, on))
        by (Leaves c) is on shared = cc shared
        by (Defers t c) is on shared = not_its (Defers t c) is (λ r. cc r) (sym (subst (IsRowOn (slot_of i)) is (at.held.on_slots i)) ∙ omega (arith, on))
        by (Frees c) is on shared = cc shared

    no_rows : length (reached.good.used.team slot) ≡ 0
    no_rows = no_team (reached.good.used.team slot) (λ i. reached.good.used.teamed slot i ∙ not_alike (slot + 1) (works_on (s.world.row i)) (λ q. none_works i (sym q)))

  -- no row works on it then
  pub outside_now : (slot : ℕ) → use_at e slot ≡ used.Outside → NobodyIn e slot → s.world.uses slot ≡ Outside 0
  outside_now slot v nobody =
      let is = subst (λ (x : SlotUse). IsUsedAs x (s.world.uses slot)) v (at.uses slot) in
      let fits = subst (λ (x : Use). UseFits x (emptied (reached.good.state.head slot)) (length (reached.good.used.team slot)) (is_open slot reached.good.state.log)) is.1 (reached.good.used.fits slot) in
      is.1 ∙ ap Outside (sym fits.1 ∙ no_rows slot nobody (ap is_shared is.1))

  pub inside_now : (slot : ℕ) → use_at e slot ≡ used.Inside → NobodyIn e slot → s.world.uses slot ≡ Inside 0
  inside_now slot v nobody =
      let is = subst (λ (x : SlotUse). IsUsedAs x (s.world.uses slot)) v (at.uses slot) in
      let fits = subst (λ (x : Use). UseFits x (emptied (reached.good.state.head slot)) (length (reached.good.used.team slot)) (is_open slot reached.good.state.log)) is.1 (reached.good.used.fits slot) in
      is.1 ∙ ap Inside (sym fits.1 ∙ no_rows slot nobody (ap is_shared is.1))

  -- whoever is registered at it may work on it
  pub taken_now : (slot : ℕ) → (use_at e slot ≡ used.Outside) ⊎ (use_at e slot ≡ used.Inside) → IsTaken (s.world.uses slot)
  taken_now slot (inl v) = let is = subst (λ (x : SlotUse). IsUsedAs x (s.world.uses slot)) v (at.uses slot) in subst IsTaken (sym is.1) tt
  taken_now slot (inr v) = let is = subst (λ (x : SlotUse). IsUsedAs x (s.world.uses slot)) v (at.uses slot) in subst IsTaken (sym is.1) tt
