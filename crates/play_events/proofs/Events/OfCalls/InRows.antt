-- A slot that is within its section while a row of a call is under way was so as the row began: so it is active in the sets of the model, which such a row leaves active.
use Rattle.std.specs.Prelude.{◌≡◌, ◌≤◌, ℕ, zero, suc, List, [], ◌∷◌, Option}
use Rattle.std.proofs.Common.{refl, ap, sym, subst, ◌∙◌, inl, inr}
use Rattle.std.proofs.lemmas.Bool.{cases_eq}
use Rattle.seize_acts.specs.Given.SeizeWaitingHeld.{count}
use Rattle.run_schedules.specs.Given.SeizeWordsMem.{Mem}
use Rattle.play_stepping.specs.Given.SeizeWaitingSets.{Change, Retires, Defers as PutsBehind, Sets, all_changed, size}
use Rattle.play_stepping.specs.Given.SeizeWorld.{World, Row, Rests, Settles, Defers, Use, IsInside, Request, Retire, Defer', Begins, Steps', one_less, one_more, with_at, settles_on, defers_on}
use Rattle.play_stepping.specs.Given.SeizeDeclared.rows.settle.Settle.{Settle}
use Rattle.play_stepping.specs.Given.SeizeDeclared.rows.settle.Settled.{Settled}
use Rattle.play_stepping.specs.Given.SeizeDeclared.rows.settle.Settled.TheVariants as settled
use Rattle.play_stepping.specs.Given.SeizeDeclared.rows.defer.Defer.{Defer}
use Rattle.play_stepping.specs.Given.SeizeDeclared.advance.Advance.{Advance}
use Rattle.play_stepping.specs.Given.SeizeDeclared.advance.Advance.TheVariants as progress
use Rattle.seize_acts.specs.Given.SeizeAloneAlone.{TakesSteps}
use Rattle.play_lists.specs.Given.TablesNodes.{deferred_word}
use Rattle.play_lists.specs.Given.TablesDeclared.node.Node.{Node}
use Rattle.play_lists.specs.Given.EffectsKnown.{Known}
use Rattle.run_schedules.specs.declared.effect.Thing.{Thing}
use Rattle.play_stepping.proofs.Given.CallersTogether.At.{at_other, at_same}
use Rattle.seize_acts.proofs.Given.SeizeWaitingFlushes.{retired_all_frame}
use Rattle.run_legal.specs.Given.ModelsAlike.{ChangesAlike}
use Rattle.run_legal.specs.Given.ModelsCallEvents.{HasReportedPart}
use Rattle.run_legal.specs.Given.ModelsNumbers.{HasNumber}
use Rattle.run_legal.proofs.Given.ModelsTurns.{inside_active}
use Rattle.play_events.specs.Events.OfCalls.{InsidesFollowInRows}
use Rattle.play_lists.specs.Given.ScenesScene.{at_first}
use Rattle.play_stepping.proofs.Given.CallersTogether.Handed.{more_back as more_inside}
use Rattle.play_stepping.proofs.Given.CallersTogether.RowSteps.{less_inside}

-- a row that shares its slot, or none
abbrev IsShared : Row → Type 0
IsShared Rests = Unit {0}
IsShared (Settles c) = Unit {0}
IsShared (Defers s c) = Unit {0}
IsShared _ = ⊥

module _ {T : Type 0} (defers : T → Option ℕ) (i t : ℕ) where
  -- another use of a slot
  back_use : (uses : ℕ → Use) (s : ℕ) (u : Use) → (IsInside u → IsInside (uses s)) → IsInside (with_at uses s u t) → IsInside (uses t)
  back_use uses s u so h = elim (cases_eq t s) as (λ _. IsInside (uses t)) [
    | inl e ↦ subst (λ (k : ℕ). IsInside (uses k)) (sym e) (so (subst (λ (x : Use). IsInside x) (at_same uses s u t e) h))
    | inr ne ↦ subst (λ (x : Use). IsInside x) (at_other uses s u t ne) h
  ]

  settles_back : (w : World T) (c : Settle) (m : Mem T) (end : Settle × Settled T) → IsInside ((settles_on w i c m end).uses t) → IsInside (w.uses t)
  settles_back w c m (d, settled.Done) h = back_use w.uses c.slot (one_less (w.uses c.slot)) (less_inside (w.uses c.slot)) h
  settles_back w c m (d, settled.Goes) h = h
  settles_back w c m (d, settled.Waits) h = h
  settles_back w c m (d, settled.Gave value) h = h

  settles_share : (w : World T) (c : Settle) (m : Mem T) (end : Settle × Settled T) → IsShared ((settles_on w i c m end).row i)
  settles_share w c m (d, settled.Done) = subst IsShared (sym (at_same w.row i Rests i refl)) tt
  settles_share w c m (d, settled.Goes) = subst IsShared (sym (at_same w.row i (Settles d) i refl)) tt
  settles_share w c m (d, settled.Waits) = subst IsShared (sym (at_same w.row i (Settles d) i refl)) tt
  settles_share w c m (d, settled.Gave value) = subst IsShared (sym (at_same w.row i (Settles d) i refl)) tt

  defers_back : (w : World T) (s : ℕ) (m : Mem T) (end : Defer × Advance Unit) → IsInside ((defers_on w i s m end).uses t) → IsInside (w.uses t)
  defers_back w s m (d, progress.Done u) h = back_use w.uses s (one_less (w.uses s)) (less_inside (w.uses s)) h
  defers_back w s m (d, progress.Goes) h = h
  defers_back w s m (d, progress.Waits) h = h
  defers_back w s m (d, progress.Refused fault) h = h

  defers_share : (w : World T) (s : ℕ) (m : Mem T) (end : Defer × Advance Unit) → IsShared ((defers_on w i s m end).row i)
  defers_share w s m (d, progress.Done u) = subst IsShared (sym (at_same w.row i Rests i refl)) tt
  defers_share w s m (d, progress.Goes) = subst IsShared (sym (at_same w.row i (Defers s d) i refl)) tt
  defers_share w s m (d, progress.Waits) = subst IsShared (sym (at_same w.row i (Defers s d) i refl)) tt
  defers_share w s m (d, progress.Refused fault) = subst IsShared (sym (at_same w.row i (Defers s d) i refl)) tt

  -- a step of it leaves no slot inside that was not, and the row shares its slot still
  one_back : (row : Row) (w v : World T) → IsShared row → Steps' defers i row w v → (IsInside (v.uses t) → IsInside (w.uses t)) × IsShared (v.row i)
  one_back (Settles c) w v shared k = (
    λ h. settles_back w c k.0 k.1 (subst (λ (x : World T). IsInside (x.uses t)) k.3 h),
    subst (λ (x : World T). IsShared (x.row i)) (sym k.3) (settles_share w c k.0 k.1),
  )
  one_back (Defers s c) w v shared k = (
    λ h. defers_back w s k.0 k.1 (subst (λ (x : World T). IsInside (x.uses t)) k.3 h),
    subst (λ (x : World T). IsShared (x.row i)) (sym k.3) (defers_share w s k.0 k.1),
  )
  one_back Rests w v shared k = absurd k
  one_back _ w v shared k = absurd shared

  many_back : (n : ℕ) (w v : World T) → IsShared (w.row i) → TakesSteps defers n i w v → IsInside (v.uses t) → IsInside (w.uses t)
  many_back zero w v shared is h = subst (λ (x : World T). IsInside (x.uses t)) is h
  many_back (suc n) w v shared (x, step, more) h =
      let it = one_back (w.row i) w x shared step in
      it.0 (many_back n x v it.1 more h)

-- what is told leaves active slots so
module _ (batch_size : ℕ) (things : List Thing) (known : Known) where
  retired_active : (s k : ℕ) (handed : List Change) (first : Sets) → ChangesAlike (HasNumber known things) (Retires s k ∷ []) handed → (all_changed batch_size handed first).sets.active ≡ first.active
  retired_active s k [] first alike = absurd alike
  retired_active s k (d ∷ []) first alike =
      let it = alike.0 in
      ap (λ (x : Change). (all_changed batch_size (x ∷ []) first).sets.active) it.2 ∙ (retired_all_frame batch_size (suc (size first)) s (it.0 ∷ []) first).active
  retired_active s k (d ∷ e ∷ l) first alike = absurd alike.1

  put_active : (k f : ℕ) (handed : List Change) (first : Sets) → ChangesAlike (HasNumber known things) (PutsBehind k f ∷ []) handed → (all_changed batch_size handed first).sets.active ≡ first.active
  put_active k f [] first alike = absurd alike
  put_active k f (d ∷ []) first alike = let it = alike.0 in ap (λ (x : Change). (all_changed batch_size (x ∷ []) first).sets.active) it.4
  put_active k f (d ∷ e ∷ l) first alike = absurd alike.1

-- as it began
module _ {K V : Type 0} (batch_size i t : ℕ) (things : List Thing) (known : Known) (slot : ℕ) where
  begun_back : (request : Request) (handed : List Change) (w v b : World (Node K V)) → HasReportedPart things known slot i request handed w → Begins deferred_word batch_size i request v b
      → (IsInside (b.uses t) → IsInside (v.uses t)) × IsShared (b.row i)
  begun_back (Retire s k) handed w v b told begins = (
    λ h. back_use (deferred_word {K = K} {V = V}) i t v.uses s (one_more (v.uses s)) (more_inside (v.uses s)) (subst (λ (x : World (Node K V)). IsInside (x.uses t)) begins.2 h),
    subst (λ (x : World (Node K V)). IsShared (x.row i)) (sym begins.2) (subst IsShared (sym (at_same v.row i _ i refl)) tt),
  )
  begun_back (Defer' s k f) handed w v b told begins = (
    λ h. back_use (deferred_word {K = K} {V = V}) i t v.uses s (one_more (v.uses s)) (more_inside (v.uses s)) (subst (λ (x : World (Node K V)). IsInside (x.uses t)) begins.7 h),
    subst (λ (x : World (Node K V)). IsShared (x.row i)) (sym begins.7) (subst IsShared (sym (at_same v.row i _ i refl)) tt),
  )
  begun_back _ handed w v b told begins = absurd told

  -- what it has told leaves active slots so
  active_as : (request : Request) (handed : List Change) (w : World (Node K V)) (first : Sets) → HasReportedPart things known slot i request handed w → (all_changed batch_size handed first).sets.active ≡ first.active
  active_as (Retire s k) handed w first (same, has, inl due) = ap (λ (l : List Change). (all_changed batch_size l first).sets.active) due.1
  active_as (Retire s k) handed w first (same, has, inr (past, alike)) = retired_active batch_size things known slot k handed first alike
  active_as (Defer' s k f) handed w first (noted, inl due) = ap (λ (l : List Change). (all_changed batch_size l first).sets.active) due.1
  active_as (Defer' s k f) handed w first (noted, inr (past, alike)) = put_active batch_size things known k f handed first alike
  active_as _ handed w first told = absurd told

pub insides_follow_in_rows : (K V : Type 0) → InsidesFollowInRows K V
insides_follow_in_rows K V batch_size roots things sets known w small row_slot slot i in_row inside =
    let f = in_row.follows in
    let began = begun_back batch_size i slot things known row_slot in_row.request in_row.handed w f.began f.row.begun in_row.told f.row.begins in
    let at_first = began.0 (many_back deferred_word i slot f.row.steps f.row.begun w began.1 f.row.runs inside) in
    subst (λ (l : List ℕ). 1 ≤ count slot l)
    (f.alike.actives ∙ sym (active_as batch_size i slot things known row_slot in_row.request in_row.handed w f.first in_row.told) ∙ ap (λ (x : Sets). x.active) (sym f.sets_are))
    (inside_active deferred_word batch_size roots small f.began f.before f.row.came slot at_first)
