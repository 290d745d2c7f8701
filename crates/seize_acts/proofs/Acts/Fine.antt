-- An act is one event of the world or a few, taken one after another.
use Rattle.std.specs.Prelude.{Option, Some, None, Ok, Err, if◌then◌else◌, ◌++◌, ◌&&◌}
use Rattle.std.proofs.Common.{◌≡◌, ℕ, zero, suc, Bool, true, false, List, [], ◌∷◌, refl, sym, subst, ◌∙◌, ◌⊎◌, inl, inr}
use Rattle.seize_words.specs.declared.at.At.{At}
use Rattle.seize_words.specs.declared.at.At.TheVariants as name
use Rattle.seize_words.specs.OneMemory.Op.{Op, Out, Load, Store, Swap, Add, Or, Exchange, Make, Take, Rewrite, Room, Found, Stored, Exchanged, Made, Taken, Roomed}
use Rattle.seize_words.specs.OneMemory.Mem.{Mem, Gives, after, value_at}
use Rattle.seize.specs.declared.states.TheConstants.{NEXT}
use Rattle.seize.specs.declared.advance.Advance.{Advance}
use Rattle.seize.specs.declared.rows.enter.Enter.{Enter}
use Rattle.seize.specs.declared.rows.enter.Unregister.{Unregister}
use Rattle.seize.specs.Enter.{enter_plan, unregister_plan}
use Rattle.seize.specs.Further.{FurtherAre}
use Rattle.seize.specs.Law.{Entered, is_orphan}
use Rattle.seize.specs.World.{World, Row, Rests, Registers, Enters, Settles, Leaves, Defers, Frees, Vacant, Inside, LeftTo, Event, Steps', Happens, Runs, IsOnto, MayClear, with_use}
use Rattle.seize.specs.World as world
use Rattle.seize_acts.specs.Acts.Answers.{Grant, then_on, answer, stepped}
use Rattle.seize_acts.specs.Acts.Acts.{Act, Change, AllDid, AllMayChange, MayChange}
use Rattle.seize_acts.specs.Acts.Acts as act
use Rattle.seize_acts.proofs.Acts.Answers.{some, given_is, answer_gives, was_stepped}
use Rattle.seize_acts.proofs.Acts.Begun.{or_either, rests_is, making_is, cutting_is, left_is, in_use_is, cut_is, begun_is, own_is, link_is, has_word, same_list_is}
use Rattle.seize_words.proofs.General.{both_true as and_both, same_some}

module _ {T : Type 0} (defers : T → Option ℕ) (size : ℕ) where
  pub row_stepped : (i : ℕ) (row : Row) (g : Grant) (w n : World T) → act.row_steps defers i row g w ≡ Some n → Steps' defers i row w n
  row_stepped i Rests g w n e = absurd (cc e)
  row_stepped i (Registers c) g w n e = let s = some _ _ n e in (s.0.0, s.0.1, was_stepped w.memory g _ s.0 s.1, sym (same_some _ n s.2))
  row_stepped i (Enters c) g w n e =
      let to = (λ (p : Mem T × (Enter × Advance Unit)). with_use (world.after_step w i p.0 Rests (Entered c.slot ∷ [])) c.slot (Inside 0)) in
      let s = some (stepped w.memory g (enter_plan c)) (λ p. Some (to p)) n e in
      (s.0.0, s.0.1, was_stepped w.memory g (enter_plan c) s.0 s.1, sym (same_some (to s.0) n s.2))
  row_stepped i (Settles c) g w n e = let s = some _ _ n e in (s.0.0, s.0.1, was_stepped w.memory g _ s.0 s.1, sym (same_some _ n s.2))
  row_stepped i (Leaves c) g w n e = let s = some _ _ n e in (s.0.0, s.0.1, was_stepped w.memory g _ s.0 s.1, sym (same_some _ n s.2))
  row_stepped i (Defers s c) g w n e = let s = some _ _ n e in (s.0.0, s.0.1, was_stepped w.memory g _ s.0 s.1, sym (same_some _ n s.2))
  row_stepped i (Frees c) g w n e =
      let to = (λ (p : Mem T × (Unregister × Advance Unit)). with_use (world.after_step w i p.0 Rests []) c.slot Vacant) in
      let s = some (stepped w.memory g (unregister_plan c)) (λ p. Some (to p)) n e in
      (s.0.0, s.0.1, was_stepped w.memory g (unregister_plan c) s.0 s.1, sym (same_some (to s.0) n s.2))

  abbrev pub Fine : World T → World T → Type 0
  Fine w n = (events : List (Event T)) × Runs defers size events w n

  none : (w : World T) → Fine w w
  none w = ([], refl)

  pub one : (e : Event T) (w n : World T) → Happens defers size e w n → Fine w n
  one e w n h = (e ∷ [], (n, h, refl))

  runs-append : (first second : List (Event T)) (w v n : World T) → Runs defers size first w v → Runs defers size second v n → Runs defers size (first ++ second) w n
  runs-append [] second w v n h k = subst (λ (u : World T). Runs defers size second u n) h k
  runs-append (e ∷ first) second w v n h k = (h.0, h.1, runs-append first second h.0 v n h.2 k)

  pub both : (w v n : World T) → Fine w v → Fine v n → Fine w n
  both w v n h k = (h.0 ++ k.0, runs-append h.0 k.0 w v n h.1 k.1)

  turned_by : (more i : ℕ) (w n : World T) (y : Bool) → ((v : World T) → act.turned defers more i v ≡ Some n → Fine v n)
      → (if y then then_on (act.row_steps defers i (w.row i) None w) (act.turned defers more i) else Some w) ≡ Some n → Fine w n
  turned_by more i w n true later k =
      let s = some (act.row_steps defers i (w.row i) None w) (act.turned defers more i) n k in
      both w s.0 n (one (world.Step i) w s.0 (row_stepped i (w.row i) None w s.0 s.1)) (later s.0 s.2)
  turned_by more i w n false later k = subst (λ (v : World T). Fine w v) (same_some w n k) (none w)

  turned : (more i : ℕ) (w n : World T) → act.turned defers more i w ≡ Some n → Fine w n
  turned zero i w n e = subst (λ (v : World T). Fine w v) (same_some w n e) (none w)
  turned (suc more) i w n e = turned_by more i w n (act.turns defers (w.row i)) (λ v k. turned more i v n k) e

  steps : (i : ℕ) (g : Grant) (w n : World T) → act.steps defers i g w ≡ Some n → Fine w n
  steps i g w n e =
      let s = some (act.row_steps defers i (w.row i) g w) (act.turned defers 2 i) n e in
      both w s.0 n (one (world.Step i) w s.0 (row_stepped i (w.row i) g w s.0 s.1)) (turned 2 i s.0 n s.2)

  -- what an operation does beside its word

  -- it changes no word and no row
  abbrev pub SameBelow : World T → World T → Type 0
  SameBelow w n = (n.memory ≡ w.memory) × (n.row ≡ w.row)

  change_below : (i : ℕ) (c : Change) (w n : World T) → act.change defers i c w ≡ Some n → SameBelow w n
  change_below i (act.Links b o) w n e = let g = given_is (act.is_making (w.hand b)) _ n e in subst (λ (v : World T). SameBelow w v) (sym g.1) (refl, refl)
  change_below i (act.Parts b) w n e = let g = given_is (act.is_in_use (w.hand b)) _ n e in subst (λ (v : World T). SameBelow w v) (sym g.1) (refl, refl)
  change_below i (act.Unlinks b) w n e = let g = given_is (act.may_cut i (w.hand b)) _ n e in subst (λ (v : World T). SameBelow w v) (sym g.1) (refl, refl)
  change_below i (act.Ends o) w n e = subst (λ (v : World T). SameBelow w v) (same_some _ n e) (refl, refl)
  change_below i (act.LeavesOver b further) w n e = let g = given_is (act.is_cutting (w.hand b) && is_orphan b w.log) _ n e in subst (λ (v : World T). SameBelow w v) (sym g.1) (refl, refl)

  pub changed_below : (i : ℕ) (changes : List Change) (w n : World T) → act.changed defers i changes w ≡ Some n → SameBelow w n
  changed_below i [] w n e = subst (λ (v : World T). SameBelow w v) (same_some w n e) (refl, refl)
  changed_below i (c ∷ changes) w n e =
      let s = some (act.change defers i c w) (act.changed defers i changes) n e in
      let a = change_below i c w s.0 s.1 in let b = changed_below i changes s.0 n s.2 in (b.0 ∙ a.0, b.1 ∙ a.1)

  happens_change : (i : ℕ) (c : Change) (w v n : World T) → act.change defers i c w ≡ Some v → SameBelow w n → MayChange defers n c → Fine w v
  happens_change i (act.Links b o) w v n e same may =
      let g = given_is (act.is_making (w.hand b)) _ v e in one (world.Links i b o) w v (making_is (w.hand b) g.0, g.1)
  happens_change i (act.Parts b) w v n e same may =
      let g = given_is (act.is_in_use (w.hand b)) _ v e in one (world.Parts i b) w v (in_use_is (w.hand b) g.0, g.1)
  happens_change i (act.Unlinks b) w v n e same may =
      let g = given_is (act.may_cut i (w.hand b)) _ v e in one (world.Unlinks i b) w v (cut_is i (w.hand b) g.0, g.1)
  happens_change i (act.Ends o) w v n e same may = one (world.Ends i o) w v (sym (same_some _ v e))
  happens_change i (act.LeavesOver b further) w v n e same may =
      let g = given_is (act.is_cutting (w.hand b) && is_orphan b w.log) _ v e in
      let k = and_both (act.is_cutting (w.hand b)) (is_orphan b w.log) g.0 in
      one (world.LeavesOver i b further) w v (
        cutting_is (w.hand b) k.0,
        k.1,
        (λ j on. may.0 j (subst (λ (r : ℕ → Row). IsOnto b (r j)) (sym same.1) on)),
        subst (λ (m : Mem T). FurtherAre defers m b further) same.0 may.1,
        g.1,
      )

  changed : (i : ℕ) (changes : List Change) (w n : World T) → act.changed defers i changes w ≡ Some n → AllMayChange defers n changes → Fine w n
  changed i [] w n e may = subst (λ (v : World T). Fine w v) (same_some w n e) (none w)
  changed i (c ∷ changes) w n e may =
      let s = some (act.change defers i c w) (act.changed defers i changes) n e in
      both w s.0 n (happens_change i c w s.0 n s.1 (changed_below i (c ∷ changes) w n e) may.0) (changed i changes s.0 n s.2 may.1)

  -- the operation itself

  made_same : (i : ℕ) (w : World T) (value : T) (words : ℕ) (out : Out T) → Gives w.memory (Make value words) out
      → act.operated defers i w (Make value words) out ≡ world.made_by defers w i (after w.memory (Make value words) out) out
  made_same i w value words (Made (Ok b)) h = refl
  made_same i w value words (Made (Err back)) h = refl
  made_same i w value words (Found k) h = absurd h
  made_same i w value words Stored h = absurd h
  made_same i w value words (Exchanged k) h = absurd h
  made_same i w value words (Taken k) h = absurd h
  made_same i w value words (Roomed k) h = absurd h

  rewritten : (i b : ℕ) (value : T) (out : Out T) (w : World T) → act.may_operate defers w (Rewrite b value) ≡ true → Gives w.memory (Rewrite b value) out
      → Fine w (act.operated defers i w (Rewrite b value) out)
  rewritten i b value (Taken before) w m h =
      let k = and_both (act.is_making (w.hand b)) (act.same_list defers (defers value) (act.list_field defers (value_at w.memory b))) m in
      one (world.Rewrites i b value) w _
      (before, after w.memory (Rewrite b value) (Taken before), making_is (w.hand b) k.0, (h, refl), same_list_is defers value (value_at w.memory b) k.1 before h, refl)
  rewritten i b value (Found k) w m h = absurd h
  rewritten i b value Stored w m h = absurd h
  rewritten i b value (Exchanged k) w m h = absurd h
  rewritten i b value (Made k) w m h = absurd h
  rewritten i b value (Roomed k) w m h = absurd h

  stored : (i : ℕ) (at : At) (word : ℕ) (out : Out T) (w : World T) → act.may_operate defers w (Store at word) ≡ true → Gives w.memory (Store at word) out
      → Fine w (act.operated defers i w (Store at word) out)
  stored i at word out w m h = by (or_either (act.is_own defers w.memory at) (act.is_left_link defers w.hand at) m)
    where
      relinks : (b : ℕ) (at2 : At) → at2 ≡ name.Entry b NEXT → (h : ℕ) × (w.hand b ≡ LeftTo h) → Gives w.memory (Store at2 word) out → Fine w (act.operated defers i w (Store at2 word) out)
      relinks b at2 is left h2 =
          subst (λ (a : At). Gives w.memory (Store a word) out → Fine w (act.operated defers i w (Store a word) out)) (sym is)
          (λ h3. one (world.Relinks i b word) w _ (out, after w.memory (Store (name.Entry b NEXT) word) out, left, (h3, refl), refl)) h2

      by : (act.is_own defers w.memory at ≡ true) ⊎ (act.is_left_link defers w.hand at ≡ true) → Fine w (act.operated defers i w (Store at word) out)
      by (inl own) = one (world.Operates (Store at word)) w _ (out, after w.memory (Store at word) out, own_is defers w.memory at own, (h, refl), refl)
      by (inr left) = let k = link_is defers w.hand at left in relinks k.0 at k.1 k.2 h

  taken : (i b : ℕ) (out : Out T) (w : World T) → act.may_operate defers w (Take b) ≡ true → (act.is_left (w.hand b) ≡ true → MayClear b w.log) → Gives w.memory (Take b) out
      → Fine w (act.operated defers i w (Take b) out)
  taken i b out w m may h = by (or_either (act.is_making (w.hand b)) (act.is_left (w.hand b)) m)
    where
      by : (act.is_making (w.hand b) ≡ true) ⊎ (act.is_left (w.hand b) ≡ true) → Fine w (act.operated defers i w (Take b) out)
      by (inl own) = one (world.Drops i b) w _ (out, after w.memory (Take b) out, making_is (w.hand b) own, (h, refl), refl)
      by (inr left) = one (world.Clears i b) w _ (out, after w.memory (Take b) out, left_is (w.hand b) left, may left, (h, refl), refl)

  operated : (i : ℕ) (op : Op T) (out : Out T) (w : World T) → act.may_operate defers w op ≡ true → act.MayTake defers op w → Gives w.memory op out
      → Fine w (act.operated defers i w op out)
  operated i (Load at) out w m may h = one (world.Operates (Load at)) w _ (out, after w.memory (Load at) out, own_is defers w.memory at m, (h, refl), refl)
  operated i (Store at word) out w m may h = stored i at word out w m h
  operated i (Swap at word) out w m may h = one (world.Operates (Swap at word)) w _ (out, after w.memory (Swap at word) out, own_is defers w.memory at m, (h, refl), refl)
  operated i (Add at by) out w m may h = one (world.Operates (Add at by)) w _ (out, after w.memory (Add at by) out, own_is defers w.memory at m, (h, refl), refl)
  operated i (Or at bits) out w m may h = one (world.Operates (Or at bits)) w _ (out, after w.memory (Or at bits) out, own_is defers w.memory at m, (h, refl), refl)
  operated i (Exchange at old new) out w m may h =
      one (world.Operates (Exchange at old new)) w _ (out, after w.memory (Exchange at old new) out, own_is defers w.memory at m, (h, refl), refl)
  operated i (Make value words) out w m may h =
      one (world.Makes i value words) w _
      (out, after w.memory (Make value words) out, has_word defers (defers value) words m, (h, refl), made_same i w value words out h)
  operated i (Take b) out w m may h = taken i b out w m may h
  operated i (Rewrite b value) out w m may h = rewritten i b value out w m h
  operated i (Room bucket) out w m may h = absurd (cc m)

  pub fine : (a : Act T) (w n : World T) → act.became defers size a w ≡ Some n → act.Allows defers size a w n → Fine w n
  fine (act.Begin i request g) w n e may = by (act.rests (w.row i)) refl e
    where
      by : (y : Bool) → act.rests (w.row i) ≡ y → (if y then then_on (act.begun defers size i request w) (act.steps defers i g) else None) ≡ Some n → Fine w n
      by true q k =
          let s = some (act.begun defers size i request w) (act.steps defers i g) n k in
          both w s.0 n (one (world.Begin i request) w s.0 (rests_is (w.row i) q, begun_is defers size i request w s.0 s.1)) (steps i g s.0 n s.2)
      by false q k = absurd (cc k)
  fine (act.Step i g) w n e may = steps i g w n e
  fine (act.Operate i op g changes) w n e may = by (act.may_operate defers w op) refl e
    where
      by : (y : Bool) → act.may_operate defers w op ≡ y
          → (if y then then_on (answer w.memory g op) (λ out. act.changed defers i changes (act.operated defers i w op out)) else None) ≡ Some n → Fine w n
      by true q k =
          let s = some (answer w.memory g op) (λ out. act.changed defers i changes (act.operated defers i w op out)) n k in
          both w _ n (operated i op s.0 w q may.0 (answer_gives w.memory g op s.0 s.1)) (changed i changes _ n s.2 may.1)
      by false q k = absurd (cc k)
  fine (act.Choose choice) w n e may = one (world.Chooses choice) w n (sym (same_some _ n e))

  pub all_fine : (acts : List (Act T)) (w n : World T) → AllDid defers size acts w n → Fine w n
  all_fine [] w n e = ([], e)
  all_fine (a ∷ acts) w n h = both w h.0 n (fine a w h.0 h.1.0 h.1.1) (all_fine acts h.0 n h.2)
