-- What an open section holds is there, and stays with its value and its number.
use Rattle.std.specs.Prelude.{Option, IsSome, Ok, Err}
use Rattle.std.proofs.Common.{◌≡◌, ℕ, ◌+◌, ◌≤◌, Bool, true, false, List, [], ◌∷◌, inl, inr, refl, arith, ap, sym, subst, ◌∙◌}
use Rattle.seize_words.specs.OneMemory.Op.{Out, Store, Found, Stored, Exchanged, Made as OutMade, Taken as OutTaken, Roomed}
use Rattle.seize_words.specs.OneMemory.Mem.{Mem, Took, value_at}
use Rattle.seize_words.specs.declared.at.At.TheVariants.{Entry}
use Rattle.seize_words.proofs.OneMemory.OneOwner.AfterWrites.{value_at-with_word}
use Rattle.seize.specs.declared.states.TheConstants.{LAST_SLOT, NEXT}
use Rattle.seize.specs.Law.{Effect, Made, Linked, Unlinked, Deferred, Dropped, Ended, LeftOver, holds, is_over, owner_of, IsSound}
use Rattle.seize.specs.World.{World, Event, Begin, Step, Makes, Drops, Links, Parts, Unlinks, Rewrites, Operates, Ends, LeavesOver, Relinks, Clears, Chooses, Request, Hand, Making, LeftTo, Begins, Happens, Runs, MayClear, Register', Enter', Leave', LeaveOwned, Refresh, Unregister', Retire, Flush, Defer', at_start, made_by}
use Rattle.seize_model.proofs.Given.SeizeMovesState.Ghost.{IsOwned, IsLeft}
use Rattle.seize_model.proofs.Given.SeizeMovesMoves.Blocks.{never_held}
use Rattle.seize_model.proofs.Given.SeizeMemoryWords.There.{entry_there}
use Rattle.seize_model.proofs.Given.SeizeRulePoints.Aside.{HandFits}
use Rattle.seize_model.proofs.Given.SeizeRuleWorld.Start.{start_good}
use Rattle.seize_model.proofs.Ends.Batches.Rows.{begins_memory, made_memory}
use Rattle.seize_model.proofs.Alone.Histories.Reached.{Reached, happens_reached, runs_reached}
use Rattle.seize_model.proofs.Alone.Histories.NotTaken.{IsHeld, kept_there, kept_value, did}
use Rattle.seize_acts.specs.Acts.Stays.{how_many, is_end_of, is_end_of_owner, HeldAreThere, HeldStay, SectionContinues}
use Rattle.seize_acts.proofs.Acts.Fine.{all_fine}
use Rattle.seize_acts.proofs.Acts.Stays.Log.{Stays, Adds, how_many_grows, adds_stays, row_adds}
use Rattle.seize_model.proofs.Given.SeizeRuleWorld.Values.{own_op_value, taken_value, made_value, rewritten_value}
pub mod Log

module _ {T : Type 0} (defers : T → Option ℕ) (size : ℕ) where
  begins_adds : (such : ℕ → Type 0) (i : ℕ) (request : Request) (w v : World T) → Begins defers size i request w v → Adds such w.log v.log
  begins_adds such i (Register' enters) w v h = inl (ap (λ (u : World T). u.log) h)
  begins_adds such i (Enter' s) w v h = inl (ap (λ (u : World T). u.log) h.1)
  begins_adds such i (Leave' s) w v h = inl (ap (λ (u : World T). u.log) h.1)
  begins_adds such i (LeaveOwned s) w v h = inl (ap (λ (u : World T). u.log) h.1)
  begins_adds such i (Refresh s) w v h = inl (ap (λ (u : World T). u.log) h.1)
  begins_adds such i (Unregister' s) w v h = inl (ap (λ (u : World T). u.log) h.1)
  begins_adds such i (Retire s c) w v h = inl (ap (λ (u : World T). u.log) h.2)
  begins_adds such i (Flush s) w v h = inl (ap (λ (u : World T). u.log) h.1)
  begins_adds such i (Defer' s c t) w v h = inr (Deferred c t, ap (λ (u : World T). u.log) h.7, tt)

  made_adds : (such : ℕ → Type 0) (w : World T) (i : ℕ) (m : Mem T) (out : Out T) → Adds such w.log (made_by defers w i m out).log
  made_adds such w i m (OutMade (Ok c)) = inr (Made c, refl, tt)
  made_adds such w i m (OutMade (Err back)) = inl refl
  made_adds such w i m (Found x) = inl refl
  made_adds such w i m Stored = inl refl
  made_adds such w i m (Exchanged r) = inl refl
  made_adds such w i m (OutTaken x) = inl refl
  made_adds such w i m (Roomed r) = inl refl

  event_adds : (such : ℕ → Type 0) (w : World T) → Reached defers size w → ((c : ℕ) → ((i : ℕ) × (w.hand c ≡ Making i)) → such c)
      → (e : Event T) (v : World T) → Happens defers size e w v → Adds such w.log v.log
  event_adds such w r made (Begin i request) v h = begins_adds such i request w v h.1
  event_adds such w r made (Step i) v h = let d = did defers size w r i v h in row_adds such d.effects w.log v.log d.one d.logged
  event_adds such w r made (Makes i value words) v h = subst (λ (u : World T). Adds such w.log u.log) (sym h.4) (made_adds such w i h.1 h.0)
  event_adds such w r made (Drops i c) v h = inr (Dropped c, ap (λ (u : World T). u.log) h.4, tt)
  event_adds such w r made (Links i c o) v h = inr (Linked c o, ap (λ (u : World T). u.log) h.1, made c h.0)
  event_adds such w r made (Parts i c) v h = inl (ap (λ (u : World T). u.log) h.1)
  event_adds such w r made (Unlinks i c) v h = inr (Unlinked c, ap (λ (u : World T). u.log) h.1, tt)
  event_adds such w r made (Rewrites i c value) v h = inl (ap (λ (u : World T). u.log) h.5)
  event_adds such w r made (Operates op) v h = inl (ap (λ (u : World T). u.log) h.4)
  event_adds such w r made (Ends i o) v h = inr (Ended o, ap (λ (u : World T). u.log) h, tt)
  event_adds such w r made (LeavesOver i c further) v h = inr (LeftOver c further, ap (λ (u : World T). u.log) h.4, tt)
  event_adds such w r made (Relinks i c word) v h = inl (ap (λ (u : World T). u.log) h.4)
  event_adds such w r made (Clears i c) v h = inr (Dropped c, ap (λ (u : World T). u.log) h.5, tt)
  event_adds such w r made (Chooses choice) v h = inl (ap (λ (u : World T). u.log) h)

  -- what has happened stays told
  run_grows : (is : Effect → Bool) (events : List (Event T)) (w n : World T) → Reached defers size w → Runs defers size events w n → how_many is w.log ≤ how_many is n.log
  run_grows is [] w n r h = subst (λ (v : World T). how_many is w.log ≤ how_many is v.log) (sym h) (omega arith)
  run_grows is (e ∷ events) w n r h =
      let one = how_many_grows (λ c. Unit {0}) is w.log (h.0).log (event_adds (λ c. Unit {0}) w r (λ c has. tt) e h.0 h.1) in
      let all = run_grows is events h.0 n (happens_reached defers size e w h.0 r h.1) h.2 in omega (arith, one, all)

  module _ (w : World T) (r : Reached defers size w) (s b : ℕ) (held : holds s b w.log ≡ true) where
    pub there : IsSome (value_at w.memory b)
    there = kept_there defers size w r b (IsHeld s held)

    fits : (c : ℕ) (h : Hand) → w.hand c ≡ h → HandFits h (r.good.state.life c)
    fits c h e = subst (λ (k : Hand). HandFits k (r.good.state.life c)) e (r.good.hands c)

    -- a block that is not linked yet is another one, and so is one that may be cleared
    not_making : (c : ℕ) → ((i : ℕ) × (w.hand c ≡ Making i)) → b ≡ c → ⊥
    not_making c has e =
        let life : r.good.state.life c ≡ IsOwned has.0 = fits c (Making has.0) has.1 in
        let none = never_held (LAST_SLOT + 1) has.0 r.good.state c r.good.inv life s in
        cc (subst (λ (l : List Effect). holds s c l ≡ false) r.good.logged none, subst (λ (d : ℕ). holds s d w.log ≡ true) e held)

    not_clear : (c : ℕ) → is_over b w.log ≡ false → MayClear c w.log → b ≡ c → ⊥
    not_clear c over (inl gone) e = cc (subst (λ (d : ℕ). is_over d w.log ≡ false) e over, gone)
    not_clear c over (inr free) e = cc (free s, subst (λ (d : ℕ). holds s d w.log ≡ true) e held)

    by_world : (v u : World T) → v ≡ u → value_at u.memory b ≡ value_at w.memory b → value_at v.memory b ≡ value_at w.memory b
    by_world v u is same = ap (λ (x : World T). value_at x.memory b) is ∙ same

    relinked_value : (i c word : ℕ) (out : Out T) (m : Mem T) → w.hand c ≡ LeftTo i → Took w.memory (Store (Entry c NEXT) word) out m → value_at m b ≡ value_at w.memory b
    relinked_value i c word out m has took =
        let left : r.good.state.life c ≡ IsLeft i = fits c (LeftTo i) has in
        let entry = entry_there defers (LAST_SLOT + 1) w.memory r.good.state r.good.extra c NEXT r.good.stocked r.good.shows (rw left refl) (omega arith) in
        ap (λ (k : Mem T). value_at k b) took.1 ∙ value_at-with_word w.memory (Entry c NEXT) word b entry

    event_value : (e : Event T) (v : World T) → is_over b w.log ≡ false → Happens defers size e w v → value_at v.memory b ≡ value_at w.memory b
    event_value (Begin i request) v over h = ap (λ (m : Mem T). value_at m b) (begins_memory defers size i request w v h.1)
    event_value (Step i) v over h = kept_value defers size w r i v h b (IsHeld s held)
    event_value (Makes i value words) v over h =
        by_world v _ h.4 (ap (λ (m : Mem T). value_at m b) (made_memory defers w i h.1 h.0) ∙ made_value defers w.memory b value words h.0 h.1 there h.3)
    event_value (Drops i c) v over h = by_world v _ h.4 (taken_value defers w.memory b c h.0 h.1 h.3 (not_making c h.2))
    event_value (Links i c o) v over h = by_world v _ h.1 refl
    event_value (Parts i c) v over h = by_world v _ h.1 refl
    event_value (Unlinks i c) v over h = by_world v _ h.1 refl
    event_value (Rewrites i c value) v over h = by_world v _ h.5 (rewritten_value defers w.memory b c value h.0 h.1 h.3 (not_making c h.2))
    event_value (Operates op) v over h = by_world v _ h.4 (ap (λ (m : Mem T). value_at m b) h.3.1 ∙ own_op_value defers w.memory b op h.0 h.2)
    event_value (Ends i o) v over h = by_world v _ h refl
    event_value (LeavesOver i c further) v over h = by_world v _ h.4 refl
    event_value (Relinks i c word) v over h = by_world v _ h.4 (relinked_value h.2.0 c word h.0 h.1 h.2.1 h.3)
    event_value (Clears i c) v over h = by_world v _ h.5 (taken_value defers w.memory b c h.0 h.1 h.4 (not_clear c over h.3))
    event_value (Chooses choice) v over h = by_world v _ h refl

  -- what the section holds through a run
  pub record StaysIn (s b : ℕ) (w n : World T) : Type 0 where
    pub logged : Stays s b w.log n.log
    pub value : value_at n.memory b ≡ value_at w.memory b

  pub run_stays : (events : List (Event T)) (w n : World T) (s b : ℕ) → Reached defers size w → holds s b w.log ≡ true → is_over b w.log ≡ false → SectionContinues defers s b w n → Runs defers size events w n
      → StaysIn s b w n
  run_stays [] w n s b r held over on h =
      subst (λ (v : World T). StaysIn s b w v) (sym h) (record { logged = record { held = held; not_over = over; owner = refl; made = refl }; value = refl })
  run_stays (e ∷ events) w n s b r held over on h =
      let v = h.0 in
      let r2 = happens_reached defers size e w v r h.1 in
      let adds = event_adds (λ c. b ≡ c → ⊥) w r (λ c has. not_making w r s b held c has) e v h.1 in
      let was = none_between (is_end_of s) w.log v.log n.log (how_many_grows (λ c. b ≡ c → ⊥) (is_end_of s) w.log v.log adds) (run_grows (is_end_of s) events v n r2 h.2) on.0 in
      let ends = is_end_of_owner (owner_of b w.log) in
      let owned = none_between ends w.log v.log n.log (how_many_grows (λ c. b ≡ c → ⊥) ends w.log v.log adds) (run_grows ends events v n r2 h.2) on.1 in
      let one = adds_stays s b w.log v.log (subst (λ (l : List Effect). IsSound l) r2.good.logged r2.good.inv.logged.sound) adds held over was owned in
      let rest = run_stays events v n s b r2 one.held one.not_over
      (on.0 ∙ sym was, subst (λ (o : ℕ). how_many (is_end_of_owner o) n.log ≡ how_many (is_end_of_owner o) v.log) (sym one.owner) (on.1 ∙ sym owned)) h.2 in
      record {
        logged = record { held = rest.logged.held; not_over = rest.logged.not_over; owner = rest.logged.owner ∙ one.owner; made = rest.logged.made ∙ one.made };
        value = rest.value ∙ event_value w r s b held e v over h.1;
      }
    where
      none_between : (is : Effect → Bool) (log log2 log3 : List Effect) → how_many is log ≤ how_many is log2 → how_many is log2 ≤ how_many is log3 → how_many is log3 ≡ how_many is log
          → how_many is log2 ≡ how_many is log
      none_between is log log2 log3 first second same = omega (arith, first, second, same)

  start_reached : (roots : ℕ) → Reached defers size (at_start defers roots)
  start_reached roots = record { good = start_good defers (LAST_SLOT + 1) size roots; sized = λ i. tt }

pub held_are_there : {T : Type 0} (defers : T → Option ℕ) → HeldAreThere defers
held_are_there defers size roots acts w h s b held =
    let f = all_fine defers size acts (at_start defers roots) w h in
    there defers size w (runs_reached defers size f.0 (at_start defers roots) w (start_reached defers size roots) f.1) s b held

pub held_stay : {T : Type 0} (defers : T → Option ℕ) → HeldStay defers
held_stay defers size roots before acts w n was h s b held over on =
    let f = all_fine defers size before (at_start defers roots) w was in
    let g = all_fine defers size acts w n h in
    let all = run_stays defers size g.0 w n s b (runs_reached defers size f.0 (at_start defers roots) w (start_reached defers size roots) f.1) held over on g.1 in
    (all.logged.held, all.value, all.logged.made)
