-- A registration is refused only where each slot was had since it began, or where the memory has no room.
use Rattle.std.specs.Prelude.{Option, Some, None, if◌then◌else◌}
use Rattle.std.proofs.Common.{◌≡◌, ℕ, ◌+◌, ◌≤◌, Bool, true, false, eqb, eqb-true, List, [], ◌∷◌, length, ◌⊎◌, inl, inr, refl, arith, ap, sym, subst, ◌∙◌}
use Rattle.std.proofs.lemmas.Bool.{eqb-false}
use Rattle.seize_words.specs.declared.fault.Fault.{Fault}
use Rattle.seize_words.specs.declared.fault.Fault.TheVariants.{SlotsUsedUp, Memory}
use Rattle.seize_words.specs.OneMemory.Mem.{Mem}
use Rattle.seize_words.specs.OneMemory.Place.{capacity}
use Rattle.seize.specs.declared.states.TheConstants.{LAST_SLOT}
use Rattle.seize.specs.declared.advance.Advance.TheVariants as progress
use Rattle.seize.specs.Register.{register_plan}
use Rattle.seize.specs.World.{World, Row, Rests, Registers, Enters, Settles, Leaves, Defers, Frees, Request, at_start}
use Rattle.seize.specs.World as world
use Rattle.seize_model.proofs.Given.SeizeMemoryWords.View.{view}
use Rattle.seize_model.proofs.Given.SeizeRuleRows.Others.{begins_others}
use Rattle.seize_model.proofs.Given.SeizeRuleWorld.Start.{start_good}
use Rattle.seize_model.proofs.Ends.Batches.Rows.{begins_memory}
use Rattle.seize_model.proofs.Alone.Histories.Reached.{Reached, happens_reached, runs_reached}
use Rattle.seize_acts.specs.Acts.Answers.{Grant, then_on, stepped}
use Rattle.seize_acts.specs.Acts.Acts.{Act, Begin, Step, Operate, Choose, AllDid, Did, became, begun, row_answered, steps, rests}
use Rattle.seize_acts.specs.Acts.Refused.{IsRegistration, IsRegistering, IsHadMeanwhile, Refuses, IsRefused, Sometime, EachWasHad, FoundNoRoom, UsedUpIfAllAreHad, NoMemoryIfNoRoom, OnlyTwoFaults}
use Rattle.seize_acts.proofs.Acts.Answers.{some, was_stepped}
use Rattle.seize_acts.proofs.Acts.Begun.{rests_is, begun_is}
use Rattle.seize_acts.proofs.Acts.Fine.{all_fine}
use Rattle.seize_acts.proofs.Acts.Refused.Heads.{TakenOrSame}
use Rattle.seize_acts.proofs.Acts.Refused.Points.{ends_known}
use Rattle.seize_acts.proofs.Acts.Refused.Faults.{NoRoom, row_fault}
use Rattle.seize_acts.proofs.Acts.Refused.Rows.{KnownRow, at_begin_known, still, row_on, KnownIn, Looking, begun_at, begins_no_look, steps_known, asked_to}
use Rattle.seize_acts.proofs.Acts.Refused.Others.{steps_leave, user_same, slots_heads}
use Rattle.seize_words.proofs.General.{same_some}
pub mod Faults
pub mod Heads
pub mod Others
pub mod Points
pub mod Rows

-- one act after another

module _ {T : Type 0} (defers : T → Option ℕ) (size i : ℕ) where
  -- K before the act, or in one of these worlds
  abbrev Later : (ℕ → Type 0) → World T → World T → ℕ → Type 0
  Later K w n t = K t ⊎ (IsHadMeanwhile i t w ⊎ IsHadMeanwhile i t n)

  module _ (K : ℕ → Type 0) (w n : World T) (r : Reached defers size w) (h : KnownIn K i w) where
    abbrev K2 : ℕ → Type 0
    K2 = Later K w n

    -- what another caller does
    others_do : TakenOrSame w.memory n.memory → n.row i ≡ w.row i → KnownIn K2 i n
    others_do heads same =
        subst (λ (row : Row). KnownRow K2 n.memory row) (sym same)
        (row_on K K2 (λ t k. inl k) w.memory n.memory heads (w.row i) (λ on s had. inr (inr (subst (λ (row : Row). IsRegistering row) (sym same) on, had))) h)

    looking : (row : Row) → w.row i ≡ row → Looking defers size i K2 w row
    looking (Registers c) is = λ p had. inr (inl (subst (λ (row : Row). IsRegistering row) (sym is) tt, had))
    looking Rests is = tt
    looking (Enters c) is = tt
    looking (Settles c) is = tt
    looking (Leaves c) is = tt
    looking (Defers s c) is = tt
    looking (Frees c) is = tt

    step_does : (g : Grant) → steps defers i g w ≡ Some n → KnownIn K2 i n
    step_does g e = steps_known defers size i K2 g w n (still K K2 (λ t k. inl k) w.memory (w.row i) h) (looking (w.row i) refl) e

    begin_does : (request : Request) (g : Grant) (y : Bool) → rests (w.row i) ≡ y
        → (if y then then_on (begun defers size i request w) (steps defers i g) else None) ≡ Some n → KnownIn K2 i n
    begin_does request g true q e =
        let s = some (begun defers size i request w) (steps defers i g) n e in
        let at = begun_at defers size i request w s.0 (begun_is defers size i request w s.0 s.1) in
        steps_known defers size i K2 g s.0 n (at_begin_known K2 (s.0).memory ((s.0).row i) at) (begins_no_look defers size i K2 s.0 ((s.0).row i) at) s.2
    begin_does request g false q e = absurd (cc e)

    other_begins : (j : ℕ) (request : Request) (g : Grant) → (i ≡ j → ⊥) → (y : Bool) → rests (w.row j) ≡ y
        → (if y then then_on (begun defers size j request w) (steps defers j g) else None) ≡ Some n → KnownIn K2 i n
    other_begins j request g ne true q e =
        let s = some (begun defers size j request w) (steps defers j g) n e in
        let b = begun_is defers size j request w s.0 s.1 in
        let l = steps_leave defers size j i ne g s.0 n (happens_reached defers size (world.Begin j request) w s.0 r (rests_is (w.row j) q, b)) s.2 in
        others_do (subst (λ (m : Mem T). TakenOrSame m n.memory) (begins_memory defers size j request w s.0 b) l.0)
        (l.1 ∙ begins_others defers size w s.0 j i ne request b)
    other_begins j request g ne false q e = absurd (cc e)

    did_known : (act : Act T) → Did defers size act w n → KnownIn K2 i n
    did_known (Begin j request g) d = by (eqb i j) (eqb-true i j) (eqb-false i j)
      where
        by : (y : Bool) → (y ≡ true → i ≡ j) → (y ≡ false → i ≡ j → ⊥) → KnownIn K2 i n
        by true same other =
            begin_does request g (rests (w.row i)) refl (subst (λ (k : ℕ). became defers size (Begin k request g) w ≡ Some n) (sym (same refl)) d.0)
        by false same other = other_begins j request g (other refl) (rests (w.row j)) refl d.0
    did_known (Step j g) d = by (eqb i j) (eqb-true i j) (eqb-false i j)
      where
        by : (y : Bool) → (y ≡ true → i ≡ j) → (y ≡ false → i ≡ j → ⊥) → KnownIn K2 i n
        by true same other = step_does g (subst (λ (k : ℕ). steps defers k g w ≡ Some n) (sym (same refl)) d.0)
        by false same other = let l = steps_leave defers size j i (other refl) g w n r d.0 in others_do l.0 l.1
    did_known (Operate j op g changes) d =
        let u = user_same defers size j w op g changes n d.0 in others_do (slots_heads defers size j w n u.0) (ap (λ (f : ℕ → Row). f i) u.1)
    did_known (Choose choice) d =
        let e = same_some _ n d.0 in
        others_do (slots_heads defers size i w n (ap (λ (x : World T). x.memory.slots) (sym e))) (ap (λ (x : World T). x.row i) (sym e))

  reached_by : (acts : List (Act T)) (w n : World T) → Reached defers size w → AllDid defers size acts w n → Reached defers size n
  reached_by acts w n r h = let f = all_fine defers size acts w n h in runs_reached defers size f.0 w n r f.1

  at_first : (P : World T → Type 0) (acts : List (Act T)) (w : World T) → P w → Sometime defers size P acts w
  at_first P [] w p = p
  at_first P (act ∷ acts) w p = inl p

  at_last : (P : World T → Type 0) (acts : List (Act T)) (w n : World T) → AllDid defers size acts w n → P n → Sometime defers size P acts w
  at_last P [] w n h p = subst P h p
  at_last P (act ∷ acts) w n h p = inr (h.0, h.1, at_last P acts h.0 n h.2 p)

  all_known : (acts : List (Act T)) (K : ℕ → Type 0) (w n : World T) → Reached defers size w → KnownIn K i w → AllDid defers size acts w n
      → KnownIn (λ t. K t ⊎ Sometime defers size (IsHadMeanwhile i t) acts w) i n
  all_known [] K w n r h d =
      subst (λ (x : World T). KnownIn (λ t. K t ⊎ IsHadMeanwhile i t w) i x) (sym d)
      (still K (λ t. K t ⊎ IsHadMeanwhile i t w) (λ t k. inl k) w.memory (w.row i) h)
  all_known (act ∷ acts) K w n r h d =
      still (λ t. Later K w d.0 t ⊎ Sometime defers size (IsHadMeanwhile i t) acts d.0)
      (λ t. K t ⊎ Sometime defers size (IsHadMeanwhile i t) (act ∷ acts) w) by n.memory (n.row i)
      (all_known acts (Later K w d.0) d.0 n (reached_by (act ∷ []) w d.0 r (d.0, d.1, refl)) (did_known K w d.0 r h act d.1) d.2)
    where
      by : (t : ℕ) → Later K w d.0 t ⊎ Sometime defers size (IsHadMeanwhile i t) acts d.0 → K t ⊎ Sometime defers size (IsHadMeanwhile i t) (act ∷ acts) w
      by t (inl (inl k)) = inl k
      by t (inl (inr (inl had))) = inr (inl had)
      by t (inl (inr (inr had))) = inr (inr (d.0, d.1, at_first (IsHadMeanwhile i t) acts d.0 had))
      by t (inr later) = inr (inr (d.0, d.1, later))

  -- where a row is refused

  refuse_known : (K : ℕ → Type 0) (w : World T) (g : Grant) (row : Row) → KnownRow K w.memory row → Looking defers size i K w row → IsRegistering row
      → Refuses row g w.memory SlotsUsedUp
      → (t : ℕ) → t ≤ LAST_SLOT → K t
  refuse_known K w g (Registers c) h look on f =
      ends_known defers w.memory f.0 c K c.stands h look (f.1, progress.Refused SlotsUsedUp)
      (was_stepped w.memory g (register_plan c) (f.0, (f.1, progress.Refused SlotsUsedUp)) f.2) refl
  refuse_known K w g Rests h look on f = absurd on
  refuse_known K w g (Enters c) h look on f = absurd on
  refuse_known K w g (Settles c) h look on f = absurd on
  refuse_known K w g (Leaves c) h look on f = absurd on
  refuse_known K w g (Defers s c) h look on f = absurd on
  refuse_known K w g (Frees c) h look on f = absurd on

  fault_in : (w : World T) (j : ℕ) (g : Grant) (fault : Fault) → Reached defers size w → Refuses (w.row j) g w.memory fault
      → IsRegistering (w.row j) × NoRoom w.memory g (row_answered defers (w.row j) g w.memory) fault
  fault_in w j g fault r f =
      row_fault w.memory g defers (LAST_SLOT + 1) j (view defers w.memory) r.good.state r.good.extra (length w.memory.slots) fault (w.row j) (r.good.rows j) f

  abbrev Had : List (Act T) → World T → ℕ → Type 0
  Had since v t = Sometime defers size (IsHadMeanwhile i t) since v

  used_up : (before since : List (Act T)) (roots : ℕ) (v w : World T) (act : Act T) → AllDid defers size before (at_start defers roots) v
      → v.row i ≡ Rests → AllDid defers size since v w
      → IsRefused defers size i act w SlotsUsedUp → EachWasHad defers size i since v
  used_up before since roots v w act was rested did = by act
    where
      r : Reached defers size v
      r = reached_by before (at_start defers roots) v (record { good = start_good defers (LAST_SLOT + 1) size roots; sized = λ j. tt }) was

      r2 : Reached defers size w
      r2 = reached_by since v w r did

      h : KnownIn (Had since v) i w
      h = still (λ t. ⊥ ⊎ Had since v t) (Had since v) (λ t k. elim k as (λ _. Had since v t) [
        | inl none ↦ absurd none
        | inr had ↦ had
      ]) w.memory (w.row i)
          (all_known since (λ t. ⊥) v w r (subst (λ (row : Row). KnownRow (λ t. ⊥) v.memory row) (sym rested) tt) did)

      looks : (row : Row) → w.row i ≡ row → Looking defers size i (Had since v) w row
      looks (Registers c) is = λ p had. at_last (IsHadMeanwhile i c.slot) since v w did (subst (λ (row : Row). IsRegistering row) (sym is) tt, had)
      looks Rests is = tt
      looks (Enters c) is = tt
      looks (Settles c) is = tt
      looks (Leaves c) is = tt
      looks (Defers s c) is = tt
      looks (Frees c) is = tt

      by : (act : Act T) → IsRefused defers size i act w SlotsUsedUp → EachWasHad defers size i since v
      by (Begin j request g) f = λ s le.
          let b = begun_is defers size j request w f.2 f.3 in
          let u = happens_reached defers size (world.Begin j request) w f.2 r2 (f.1, b) in
          let at = begun_at defers size j request w f.2 b in
          let on = (fault_in f.2 j g SlotsUsedUp u f.4).0 in
          let h = at_begin_known (λ t. ⊥) (f.2).memory ((f.2).row j) at in
          absurd (refuse_known (λ t. ⊥) f.2 g ((f.2).row j) h (begins_no_look defers size i (λ t. ⊥) f.2 ((f.2).row j) at) on f.4 0 (omega arith))
      by (Step j g) f = mine (subst (λ (k : ℕ). Refuses (w.row k) g w.memory SlotsUsedUp) f.0 f.1)
        where
          mine : Refuses (w.row i) g w.memory SlotsUsedUp → EachWasHad defers size i since v
          mine k = refuse_known (Had since v) w g (w.row i) h (looks (w.row i) refl) (fault_in w i g SlotsUsedUp r2 k).0 k
      by (Operate j op g changes) f = absurd f
      by (Choose choice) f = absurd f

  -- what an act is refused for
  abbrev RefusedFor : World T → Act T → Fault → Type 0
  RefusedFor w act fault = IsRegistration defers size act w × ((fault ≡ SlotsUsedUp) ⊎ ((fault ≡ Memory) × FoundNoRoom defers size act w))

  fault_of : (roots : ℕ) (acts : List (Act T)) (w : World T) (act : Act T) (fault : Fault) → AllDid defers size acts (at_start defers roots) w
      → IsRefused defers size i act w fault
      → RefusedFor w act fault
  fault_of roots acts w act fault did = by act
    where
      r : Reached defers size w
      r = reached_by acts (at_start defers roots) w (record { good = start_good defers (LAST_SLOT + 1) size roots; sized = λ j. tt }) did

      by : (act : Act T) → IsRefused defers size i act w fault → RefusedFor w act fault
      by (Begin j request g) f =
          let b = begun_is defers size j request w f.2 f.3 in
          let u = happens_reached defers size (world.Begin j request) w f.2 r (f.1, b) in
          let k = fault_in f.2 j g fault u f.4 in
          (asked_to defers size j request g w f.2 b k.0, begun k.1)
        where
          begun : NoRoom (f.2).memory g (row_answered defers ((f.2).row j) g (f.2).memory) fault
              → (fault ≡ SlotsUsedUp) ⊎ ((fault ≡ Memory) × FoundNoRoom defers size (Begin j request g) w)
          begun (inl e) = inl e
          begun (inr k) = inr (
            k.0,
            (
              ap (λ (o : Option (World T)). then_on o (λ v. row_answered defers (v.row j) g v.memory)) f.3 ∙ k.1,
              k.2,
              subst (λ (m : Mem T). length m.slots + 32 ≡ capacity k.2)
                  (begins_memory defers size j request w f.2 (begun_is defers size j request w f.2 f.3)) k.3,
            ),
          )
      by (Step j g) f = let k = fault_in w j g fault r f.1 in (k.0, stepped k.1)
        where
          stepped : NoRoom w.memory g (row_answered defers (w.row j) g w.memory) fault
              → (fault ≡ SlotsUsedUp) ⊎ ((fault ≡ Memory) × FoundNoRoom defers size (Step j g) w)
          stepped (inl e) = inl e
          stepped (inr k) = inr (k.0, (k.1, k.2, k.3))
      by (Operate j op g changes) f = absurd f
      by (Choose choice) f = absurd f

pub used_up_if_had : {T : Type 0} (defers : T → Option ℕ) → UsedUpIfAllAreHad defers
used_up_if_had defers size roots i before since v w act was rests did refused = used_up defers size i before since roots v w act was rests did refused

pub no_memory_if_no_room : {T : Type 0} (defers : T → Option ℕ) → NoMemoryIfNoRoom defers
no_memory_if_no_room defers size roots i acts w act did refused =
    elim (fault_of defers size i roots acts w act Memory did refused).1 as (λ _. FoundNoRoom defers size act w) [
      | inl e ↦ absurd (cc e)
      | inr k ↦ k.1
    ]

pub only_two_faults : {T : Type 0} (defers : T → Option ℕ) → OnlyTwoFaults defers
only_two_faults defers size roots i acts w act fault did refused =
    let f = fault_of defers size i roots acts w act fault did refused in (
      f.0,
      elim f.1 as (λ _. (fault ≡ SlotsUsedUp) ⊎ (fault ≡ Memory)) [
        | inl e ↦ inl e
        | inr k ↦ inr k.0
      ],
    )
