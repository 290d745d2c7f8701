-- What users do, none of it a row's, leaves what waits behind tables there.
use Rattle.std.specs.Prelude.{◌≡◌, ◌⊎◌, ℕ, ◌+◌, true, List, [], ◌∷◌, Option, Some, None, Ok, Err, IsSome}
use Rattle.std.proofs.Common.{refl, ap, sym, subst, ◌∙◌, inl, inr}
use Rattle.run_debts.specs.Given.SeizeWordsMem.{Mem, value_at, value_in, Took}
use Rattle.run_debts.specs.Given.SeizeWordsOp.{Out, Make, Found, Stored, Exchanged, Made, Taken, Roomed}
use Rattle.run_debts.specs.Given.SeizeDeclared.states.TheConstants.{LAST_SLOT}
use Rattle.run_debts.specs.Given.SeizeSequence.{IsUsers}
use Rattle.run_debts.specs.Given.SeizeWorld.{World, Hand, NoBlock, Making, InUse, Parting, Cutting, Handed, LeftTo, MayCut, Event, Begin, Step, Makes, Drops, Links, Parts, Unlinks, Rewrites, Operates, Ends, LeavesOver, Relinks, Clears, Chooses, Happens, Runs, with_at, made_by}
use Rattle.run_debts.proofs.Given.SeizeRulePoints.Aside.{HandFits}
use Rattle.run_debts.proofs.Given.SeizeMemoryWords.Shows.{lives}
use Rattle.run_debts.proofs.Given.SeizeMemoryWords.There.{value_there}
use Rattle.run_debts.proofs.Given.SeizeMovesState.Ghost.{Life}
use Rattle.run_debts.specs.Given.TablesNodes.{deferred_word}
use Rattle.run_debts.specs.Given.RunsDeclared.effect.TableId.{TableId}
use Rattle.run_debts.specs.Given.SchedulesMoment.{Behind}
use Rattle.run_debts.specs.Given.RuleInWorld.{AllUsers}
use Rattle.run_debts.proofs.Given.RuleWorld.Hands.{at_cases}
use Rattle.run_waiting.specs.Lives.Behind.{IsLeft, IsDeferredTo, EachWaits}
use Rattle.run_waiting.specs.Lives.Steps.{UsersPreserveWaiting}
use Rattle.run_waiting.specs.Lives.Waiting.{waits_behind}
use Rattle.run_waiting.proofs.Lives.Each.{each_on}
use Rattle.run_waiting.proofs.Lives.Worlds.{Kept, IsAside, log_back, happens_kept, runs_kept, start_kept}

pub cut_left : (i : ℕ) (h : Hand) → MayCut i h → IsLeft h → ⊥
cut_left i NoBlock may left = absurd left
cut_left i (Making j) may left = absurd left
cut_left i (InUse o) may left = absurd left
cut_left i (Parting j) may left = absurd left
cut_left i (Cutting j) may left = absurd left
cut_left i Handed may left = absurd left
cut_left i (LeftTo j) may left = absurd may

pub left_lives : (h : Hand) (l : Life) → IsLeft h → HandFits h l → lives l ≡ true
left_lives NoBlock l left fits = absurd left
left_lives (Making i) l left fits = absurd left
left_lives (InUse o) l left fits = absurd left
left_lives (Parting i) l left fits = absurd left
left_lives (Cutting i) l left fits = absurd left
left_lives Handed l left fits = absurd left
left_lives (LeftTo i) l left fits = ap lives fits

pub users_aside : {T : Type 0} (e : Event T) → IsUsers e → IsAside e
users_aside (Begin i request) u = absurd u
users_aside (Step i) u = absurd u
users_aside (LeavesOver i c further) u = absurd u
users_aside (Makes i value words) u = tt
users_aside (Drops i c) u = tt
users_aside (Links i c o) u = tt
users_aside (Parts i c) u = tt
users_aside (Unlinks i c) u = tt
users_aside (Rewrites i c value) u = tt
users_aside (Operates op) u = tt
users_aside (Ends i o) u = absurd u
users_aside (Relinks i c word) u = absurd u
users_aside (Clears i c) u = absurd u
users_aside (Chooses choice) u = tt

module _ {T : Type 0} (defers : T → Option ℕ) (size : ℕ) (w w2 : World T) (k : Kept defers size w) (x : ℕ) (left : IsLeft (w.hand x)) where
  there : IsSome (value_at w.memory x)
  there = value_there defers (LAST_SLOT + 1) w.memory k.good.state k.good.extra x k.good.shows (left_lives (w.hand x) (k.good.state.life x) left (k.good.hands x))

  -- another block changes hands
  other_hand : (b : ℕ) (h h2 : Hand) → w.hand b ≡ h → (IsLeft h → ⊥) → IsLeft (with_at w.hand b h2 x)
  other_hand b h h2 is none = at_cases IsLeft w.hand b h2 x (λ e. absurd (none (subst IsLeft (ap w.hand e ∙ is) left))) (λ ne. left)

  as_hands : (v : World T) → w2 ≡ v → IsLeft (v.hand x) → IsLeft (w2.hand x)
  as_hands v is its = subst (λ (z : World T). IsLeft (z.hand x)) (sym is) its

  new_hand : (i b : ℕ) → value_at w.memory b ≡ None → IsLeft (with_at w.hand b (Making i) x)
  new_hand i b none = at_cases IsLeft w.hand b (Making i) x (λ e. absurd (gone (value_at w.memory x) there (ap (value_at w.memory) e ∙ none))) (λ ne. left)
    where
      gone : (o : Option T) → IsSome o → o ≡ None → ⊥
      gone o some is = (let it : IsSome {T = T} None = subst (λ (q : Option T). IsSome q) is some in cc it)

  makes_left : (i : ℕ) (value : T) (words : ℕ) (out : Out T) (made : Mem T) → Took w.memory (Make value words) out made → IsLeft ((made_by defers w i made out).hand x)
  makes_left i value words (Made (Ok b)) made took = new_hand i b (ap value_in took.0.0.0)
  makes_left i value words (Made (Err back)) made took = left
  makes_left i value words (Found a) made took = left
  makes_left i value words Stored made took = left
  makes_left i value words (Exchanged r) made took = left
  makes_left i value words (Taken a) made took = left
  makes_left i value words (Roomed r) made took = left

  event_left : (e : Event T) → IsUsers e → Happens defers size e w w2 → IsLeft (w2.hand x)
  event_left (Begin i request) u h = absurd u
  event_left (Step i) u h = absurd u
  event_left (LeavesOver i c further) u h = absurd u
  event_left (Makes i value words) u h = as_hands (made_by defers w i h.1 h.0) h.4 (makes_left i value words h.0 h.1 h.3)
  event_left (Drops i c) u h = as_hands _ h.4 (other_hand c (Making h.2.0) NoBlock h.2.1 (λ z. z))
  event_left (Links i c o) u h = as_hands _ h.1 (other_hand c (Making h.0.0) (InUse o) h.0.1 (λ z. z))
  event_left (Parts i c) u h = as_hands _ h.1 (other_hand c (InUse h.0.0) (Parting i) h.0.1 (λ z. z))
  event_left (Unlinks i c) u h = as_hands _ h.1 (other_hand c (w.hand c) (Cutting i) refl (cut_left i (w.hand c) h.0))
  event_left (Rewrites i c value) u h = as_hands _ h.5 left
  event_left (Operates op) u h = as_hands _ h.4 left
  event_left (Ends i o) u h = absurd u
  event_left (Relinks i c word) u h = absurd u
  event_left (Clears i c) u h = absurd u
  event_left (Chooses choice) u h = as_hands _ h left

module _ {T : Type 0} (defers : T → Option ℕ) (size : ℕ) where
  -- what is so after all that they do
  record After (w w2 : World T) : Type 0 where
    pub waits : (b : ℕ) → waits_behind b w2.log ≡ waits_behind b w.log
    pub left : (x : ℕ) → IsLeft (w.hand x) → IsLeft (w2.hand x)

  all_after : (events : List (Event T)) (w w2 : World T) → Kept defers size w → AllUsers events → Runs defers size events w w2 → After w w2
  all_after [] w w2 k u runs = record {
    waits = λ b. ap (λ (z : World T). waits_behind b z.log) runs;
    left = λ x its. subst (λ (z : World T). IsLeft (z.hand x)) (sym runs) its;
  }
  all_after (e ∷ events) w w2 k u runs =
      let v = runs.0 in
      let rest = all_after events v w2 (happens_kept defers size w v k e runs.1) u.1 runs.2 in
      record {
        waits = λ b. rest.waits b ∙ sym (log_back defers size w v e (users_aside e u.0) runs.1 b);
        left = λ x its. rest.left x (event_left defers size w v k x its e u.0 runs.1);
      }

pub users_keep_waiting : (K V : Type 0) → UsersPreserveWaiting K V
users_keep_waiting K V size m v known known2 w w2 came waiting events users runs deferred places pairs tables =
    subst (EachWaits (λ n t. (v.place n ≡ Behind) × IsDeferredTo known2 w2 n t)) (sym deferred)
    (each_on (λ n t. (m.place n ≡ Behind) × IsDeferredTo known w n t) (λ n t. (v.place n ≡ Behind) × IsDeferredTo known2 w2 n t) (λ n t p. (places n t p.1 p.0, lies n t p.1)) m.deferred waiting)
  where
    after : After deferred_word size w w2
    after = all_after deferred_word size events w w2 (runs_kept deferred_word size came.1 _ w (start_kept deferred_word size came.0) came.2) users runs

    lies : (n : ℕ) (t : TableId) → IsDeferredTo known w n t → IsDeferredTo known2 w2 n t
    lies n t l = record { pair = l.pair; is_pair = pairs l.pair n l.is_pair; table = l.table; len = l.len; is_table = tables l.table l.len t l.is_table; waits = by l.waits }
      where
        by : (waits_behind l.pair w.log ≡ Some l.table) ⊎ (IsLeft (w.hand l.pair) × IsLeft (w.hand l.table))
            → (waits_behind l.pair w2.log ≡ Some l.table) ⊎ (IsLeft (w2.hand l.pair) × IsLeft (w2.hand l.table))
        by (inl is) = inl (after.waits l.pair ∙ is)
        by (inr both) = inr (after.left l.pair both.0, after.left l.table both.1)
