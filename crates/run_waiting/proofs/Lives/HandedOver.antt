-- A block that the collector has, and that waits behind no other one, stays so until a row takes it: as rows begin and step,
-- whatever users do, and as a map ends.
use Rattle.std.specs.Prelude.{zero, suc, Option, Some, None, Ok, Err, IsSome, if◌then◌else◌}
use Rattle.std.proofs.Common.{◌≡◌, ◌==◌, ◌<◌, ℕ, ◌+◌, Bool, true, false, List, [], ◌∷◌, refl, arith, ap, sym, subst, ◌∙◌}
use Rattle.std.proofs.lemmas.Bool.{ne_eqb}
use Rattle.run_debts.specs.Given.SeizeWordsMem.{Mem, value_at, value_in, Took}
use Rattle.run_debts.specs.Given.SeizeWordsOp.{Out, Make, Store, Found, Stored, Exchanged, Made, Taken, Roomed}
use Rattle.run_debts.specs.Given.SeizeSequence.{IsUsers, taken_in}
use Rattle.run_debts.specs.Given.SeizeDeclared.states.TheConstants.{LAST_SLOT}
use Rattle.run_debts.specs.Given.SeizeWorld.{World, Hand, NoBlock, Making, InUse, Parting, Cutting, Handed, MayCut, Request, Register', Enter', Leave', LeaveOwned, Refresh, Unregister', Retire, Flush, Defer', Begins, Event, Begin, Step, Makes, Drops, Links, Parts, Unlinks, Rewrites, Operates, Ends, LeavesOver, Relinks, Clears, Chooses, Happens, Runs, with_at, made_by, times}
use Rattle.run_debts.specs.Given.SeizeWaitingHeld.{count}
use Rattle.run_debts.proofs.Given.SeizeRulePoints.Aside.{HandFits}
use Rattle.run_debts.proofs.Given.SeizeRuleRows.Effects.{hand_kept}
use Rattle.run_debts.proofs.Given.SeizeMemoryWords.There.{value_there}
use Rattle.run_debts.proofs.Given.SeizeRuleWorld.Events.{leaves_over_good}
use Rattle.run_debts.proofs.Given.SeizeAloneSpared.Rows.{RowStepped}
use Rattle.run_debts.specs.Given.TablesNodes.{deferred_word}
use Rattle.run_debts.specs.Given.TablesDeclared.node.Node.{Node}
use Rattle.run_debts.specs.Given.RuleInWorld.{AllUsers}
use Rattle.run_debts.proofs.Given.RuleWorld.Hands.{at_cases}
use Rattle.run_debts.specs.Given.CallersTogether.{CameAbout}
use Rattle.run_debts.specs.Given.FinishesFactsEnds.{Deed, Looks, TakesPair, LeavesTable, JoinsPair, TakesLeft, TakesCounter, WritesRoot, events_of, taken_by, left_by}
use Rattle.run_debts.proofs.Given.FinishesEnds.Frames.{that_one}
use Rattle.run_waiting.specs.Lives.Behind.{IsLeft}
use Rattle.run_waiting.specs.Lives.Handed.{IsHandedOver}
use Rattle.run_waiting.specs.Lives.Waiting.{waits_behind, unless_it}
use Rattle.run_waiting.proofs.Lives.LeftOver.{over}
use Rattle.run_waiting.proofs.Lives.Listed.{Listing, happens_listed, runs_listed, start_listed, left_has_none, own_has_none}
use Rattle.run_waiting.proofs.Lives.Logs.{waits_not}
use Rattle.run_waiting.proofs.Lives.Users.{users_aside}
use Rattle.run_waiting.proofs.Lives.Worlds.{log_back, happens_kept}
use Rattle.run_debts.proofs.Given.FinishesBeside.Makings.Outs.{handed_lives}

module _ {T : Type 0} (defers : T → Option ℕ) (size i : ℕ) (w v : World T) (b : ℕ) (its : IsHandedOver w b) where
  -- the beginning of a row
  as_it_was : v.hand ≡ w.hand → v.log ≡ w.log → IsHandedOver v b
  as_it_was hands log = (ap (λ (h : ℕ → Hand). h b) hands ∙ its.0, ap (waits_behind b) log ∙ its.1)

  pub begins_over : (request : Request) → Begins defers size i request w v → IsHandedOver v b
  begins_over (Register' enters) h = as_it_was (ap (λ (z : World T). z.hand) h) (ap (λ (z : World T). z.log) h)
  begins_over (Enter' s) h = as_it_was (ap (λ (z : World T). z.hand) h.1) (ap (λ (z : World T). z.log) h.1)
  begins_over (Leave' s) h = as_it_was (ap (λ (z : World T). z.hand) h.1) (ap (λ (z : World T). z.log) h.1)
  begins_over (LeaveOwned s) h = as_it_was (ap (λ (z : World T). z.hand) h.1) (ap (λ (z : World T). z.log) h.1)
  begins_over (Refresh s) h = as_it_was (ap (λ (z : World T). z.hand) h.1) (ap (λ (z : World T). z.log) h.1)
  begins_over (Unregister' s) h = as_it_was (ap (λ (z : World T). z.hand) h.1) (ap (λ (z : World T). z.log) h.1)
  begins_over (Flush s) h = as_it_was (ap (λ (z : World T). z.hand) h.1) (ap (λ (z : World T). z.log) h.1)
  begins_over (Retire s c) h = (
    ap (λ (z : World T). z.hand b) h.2 ∙ at_cases (λ (k : Hand). k ≡ Handed) w.hand c Handed b (λ e. refl) (λ ne. its.0),
    ap (λ (z : World T). waits_behind b z.log) h.2 ∙ its.1,
  )
  begins_over (Defer' s c u) h = (
    ap (λ (z : World T). z.hand b) h.7 ∙ at_cases (λ (k : Hand). k ≡ Handed) w.hand c Handed b (λ e. refl) (λ ne. its.0),
    ap (λ (z : World T). waits_behind b z.log) h.7
        ∙ ap (λ (q : Bool). if q then Some u else waits_behind b w.log) (ne_eqb b c (λ e. subst (MayCut i) (ap w.hand (sym e) ∙ its.0) h.2)) ∙ its.1,
  )

  -- a step of one that does not take it
  pub steps_over : (it : RowStepped defers i w v) → times b (taken_in it.effects) ≡ 0 → IsHandedOver v b
  steps_over it none = (
    ap (λ (h : ℕ → Hand). h b) it.hands ∙ hand_kept b it.effects w.hand none it.one ∙ its.0,
    ap (waits_behind b) it.logged ∙ waits_not b it.effects w.log it.one its.1,
  )

-- what users do
module _ {T : Type 0} (defers : T → Option ℕ) (size : ℕ) (w v : World T) (k : Listing defers size w) (b : ℕ) (handed : w.hand b ≡ Handed) where
  there : IsSome (value_at w.memory b)
  there = value_there defers (LAST_SLOT + 1) w.memory k.good.state k.good.extra b k.good.shows
      (handed_lives (k.good.state.life b) (subst (λ (h : Hand). HandFits h (k.good.state.life b)) handed (k.good.hands b)))

  other_hand : (c : ℕ) (h h2 : Hand) → w.hand c ≡ h → (h ≡ Handed → ⊥) → with_at w.hand c h2 b ≡ Handed
  other_hand c h h2 is none = at_cases (λ (x : Hand). x ≡ Handed) w.hand c h2 b (λ e. absurd (none (sym is ∙ ap w.hand (sym e) ∙ handed))) (λ ne. handed)

  as_hands : (z : World T) → v ≡ z → z.hand b ≡ Handed → v.hand b ≡ Handed
  as_hands z is h = ap (λ (x : World T). x.hand b) is ∙ h

  new_hand : (i c : ℕ) → value_at w.memory c ≡ None → with_at w.hand c (Making i) b ≡ Handed
  new_hand i c none = at_cases (λ (x : Hand). x ≡ Handed) w.hand c (Making i) b (λ e. absurd (gone (value_at w.memory b) there (ap (value_at w.memory) e ∙ none))) (λ ne. handed)
    where
      gone : (o : Option T) → IsSome o → o ≡ None → ⊥
      gone o some is = (let it : IsSome {T = T} None = subst (λ (q : Option T). IsSome q) is some in cc it)

  makes_handed : (i : ℕ) (value : T) (words : ℕ) (out : Out T) (made : Mem T) → Took w.memory (Make value words) out made → (made_by defers w i made out).hand b ≡ Handed
  makes_handed i value words (Made (Ok c)) made took = new_hand i c (ap value_in took.0.0.0)
  makes_handed i value words (Made (Err back)) made took = handed
  makes_handed i value words (Found a) made took = handed
  makes_handed i value words Stored made took = handed
  makes_handed i value words (Exchanged r) made took = handed
  makes_handed i value words (Taken a) made took = handed
  makes_handed i value words (Roomed r) made took = handed

  not_cut : (i c : ℕ) → MayCut i (w.hand c) → w.hand c ≡ Handed → ⊥
  not_cut i c may is = subst (MayCut i) is may

  event_handed : (e : Event T) → IsUsers e → Happens defers size e w v → v.hand b ≡ Handed
  event_handed (Begin i request) u h = absurd u
  event_handed (Step i) u h = absurd u
  event_handed (LeavesOver i c further) u h = absurd u
  event_handed (Makes i value words) u h = as_hands (made_by defers w i h.1 h.0) h.4 (makes_handed i value words h.0 h.1 h.3)
  event_handed (Drops i c) u h = as_hands _ h.4 (other_hand c (Making h.2.0) NoBlock h.2.1 (λ z. cc z))
  event_handed (Links i c o) u h = as_hands _ h.1 (other_hand c (Making h.0.0) (InUse o) h.0.1 (λ z. cc z))
  event_handed (Parts i c) u h = as_hands _ h.1 (other_hand c (InUse h.0.0) (Parting i) h.0.1 (λ z. cc z))
  event_handed (Unlinks i c) u h = as_hands _ h.1 (other_hand c (w.hand c) (Cutting i) refl (not_cut i c h.0))
  event_handed (Rewrites i c value) u h = as_hands _ h.5 handed
  event_handed (Operates op) u h = as_hands _ h.4 handed
  event_handed (Ends i o) u h = absurd u
  event_handed (Relinks i c word) u h = absurd u
  event_handed (Clears i c) u h = absurd u
  event_handed (Chooses choice) u h = as_hands _ h handed

pub users_over : {T : Type 0} (defers : T → Option ℕ) (size : ℕ) (events : List (Event T)) (w v : World T) → Listing defers size w → AllUsers events → Runs defers size events w v
    → (b : ℕ) → IsHandedOver w b → IsHandedOver v b
users_over defers size [] w v k u runs b its = subst (λ (z : World _). IsHandedOver z b) (sym runs) its
users_over defers size (e ∷ events) w v k u runs b its =
    users_over defers size events runs.0 v (happens_listed defers size w runs.0 k e runs.1) u.1 runs.2 b (
      event_handed defers size w runs.0 k b its.0 e u.0 runs.1,
      sym (log_back defers size w runs.0 e (users_aside e u.0) runs.1 b) ∙ its.1,
    )

-- what came about lists what waits
pub came_listed : {K V : Type 0} (size : ℕ) (w : World (Node K V)) → CameAbout size w → Listing deferred_word size w
came_listed size w came = runs_listed deferred_word size came.1 _ w (start_listed deferred_word size came.0) came.2

-- one counts as the other
times_count : (b : ℕ) (l : List ℕ) → 0 < times b l → 0 < count b l
times_count b [] some = some
times_count b (c ∷ l) some = by (b == c) refl some (times_count b l)
  where
    by : (q : Bool) → (b == c) ≡ q → 0 < (if q then 1 else 0) + times b l → (0 < times b l → 0 < count b l) → 0 < count b (c ∷ l)
    by true is more rest = (let one : count b (c ∷ l) ≡ 1 + count b l = ap (λ (q : Bool). (if q then 1 else 0) + count b l) is in omega (arith, one))
    by false is more rest = (let further = rest (omega (arith, more)) in let none : count b (c ∷ l) ≡ 0 + count b l = ap (λ (q : Bool). (if q then 1 else 0) + count b l) is in omega (arith, none, further))

-- by what is done as a map ends
module _ {T : Type 0} (defers : T → Option ℕ) (size i : ℕ) (w w2 : World T) (k : Listing defers size w) (b : ℕ) (its : IsHandedOver w b) where
  still : (e : Event T) (z : World T) (u : IsUsers e) → Happens defers size e w z → waits_behind b z.log ≡ None
  still e z u h = sym (log_back defers size w z e (users_aside e u) h b) ∙ its.1

  -- it is not left over
  pub deed_leaves : (deed : Deed) → Runs defers size (events_of i deed) w w2 → times b (left_by deed) ≡ 0
  deed_leaves Looks runs = refl
  deed_leaves (TakesPair c) runs = refl
  deed_leaves (JoinsPair c word) runs = refl
  deed_leaves (TakesLeft c) runs = refl
  deed_leaves (TakesCounter c) runs = refl
  deed_leaves (WritesRoot at word) runs = refl
  deed_leaves (LeavesTable c further) runs = by (b == c) refl (times b further) refl
    where
      k1 : Listing defers size runs.0
      k1 = happens_listed defers size w runs.0 k (Unlinks i c) runs.1

      listed : 0 < times b further → ⊥
      listed some =
          let is = (leaves_over_good defers (LAST_SLOT + 1) size runs.0 runs.2.0 k1.good i c further runs.2.1).2 in
          let waits = k1.lists b c (subst (λ (l : List ℕ). 0 < count b l) is (times_count b further some)) in
          let none = still (Unlinks i c) runs.0 tt runs.1 in
          cc (waits, none)

      by : (q : Bool) → (b == c) ≡ q → (n : ℕ) → times b further ≡ n → times b (c ∷ further) ≡ 0
      by true is n e = absurd (let same : b ≡ c = grind (arith, is) in subst (MayCut i) (ap w.hand (sym same) ∙ its.0) runs.1.0)
      by false is zero e = (let count : times b (c ∷ further) ≡ 0 + times b further = ap (λ (q : Bool). (if q then 1 else 0) + times b further) is in omega (arith, count, e))
      by false is (suc n) e = absurd (listed (omega (arith, e)))

  -- nor does it wait then
  pub deed_alone : (deed : Deed) → Runs defers size (events_of i deed) w w2 → waits_behind b w2.log ≡ None
  deed_alone Looks runs = ap (λ (z : World T). waits_behind b z.log) runs ∙ its.1
  deed_alone (TakesPair c) runs =
      let cut = still (Unlinks i c) runs.0 tt runs.1 in
      let over = ap (λ (z : World T). waits_behind b z.log) runs.2.1.4 ∙ ap (unless_it c) cut in
      ap (λ (z : World T). waits_behind b z.log) runs.2.2.2 ∙ sym (log_back defers size runs.2.0 runs.2.2.0 (Clears i c) tt runs.2.2.1 b) ∙ over
  deed_alone (LeavesTable c further) runs =
      let cut = still (Unlinks i c) runs.0 tt runs.1 in
      ap (λ (z : World T). waits_behind b z.log) runs.2.2 ∙ ap (λ (z : World T). waits_behind b z.log) runs.2.1.4 ∙ ap (unless_it c) cut
  deed_alone (JoinsPair c word) runs = ap (λ (z : World T). waits_behind b z.log) runs.2 ∙ sym (log_back defers size w runs.0 (Relinks i c word) tt runs.1 b) ∙ its.1
  deed_alone (TakesLeft c) runs = ap (λ (z : World T). waits_behind b z.log) runs.2 ∙ sym (log_back defers size w runs.0 (Clears i c) tt runs.1 b) ∙ its.1
  deed_alone (TakesCounter c) runs = ap (λ (z : World T). waits_behind b z.log) runs.2 ∙ sym (log_back defers size w runs.0 (Drops i c) tt runs.1 b) ∙ its.1
  deed_alone (WritesRoot at word) runs = ap (λ (z : World T). waits_behind b z.log) runs.2 ∙ sym (log_back defers size w runs.0 (Operates (Store at word)) tt runs.1 b) ∙ its.1

-- what waits behind a block that is taken as a map ends the collector has no more
module _ {T : Type 0} (defers : T → Option ℕ) (size i : ℕ) (w w2 : World T) (k : Listing defers size w) (b x : ℕ) (waits : waits_behind b w.log ≡ Some x) where
  pub deed_frees : (deed : Deed) → Runs defers size (events_of i deed) w w2 → 0 < times x (taken_by deed) → w2.hand b ≡ Handed → ⊥
  deed_frees Looks runs some handed = omega (arith, some)
  deed_frees (LeavesTable c further) runs some handed = omega (arith, some)
  deed_frees (JoinsPair c word) runs some handed = omega (arith, some)
  deed_frees (WritesRoot at word) runs some handed = omega (arith, some)
  deed_frees (TakesLeft c) runs some handed = left_has_none defers size w k b x waits (subst IsLeft (sym (ap w.hand (that_one x c some) ∙ runs.1.2.1)) tt)
  deed_frees (TakesCounter c) runs some handed = own_has_none defers size w k b x _ waits (ap w.hand (that_one x c some) ∙ runs.1.2.1)
  deed_frees (TakesPair c) runs some handed =
      at_cases (λ (h : Hand). h ≡ Handed → ⊥) runs.2.0.hand c NoBlock b (λ e z. cc z) (λ ne z. subst IsLeft z left)
      (sym (ap (λ (y : World T). y.hand b) runs.2.2.1.5) ∙ sym (ap (λ (y : World T). y.hand b) runs.2.2.2) ∙ handed)
    where
      cut : waits_behind b runs.0.log ≡ Some c
      cut = sym (log_back defers size w runs.0 (Unlinks i c) tt runs.1 b) ∙ waits ∙ ap (λ (y : ℕ). Some y) (that_one x c some)

      left : IsLeft (runs.2.0.hand b)
      left = over defers size runs.0 (happens_kept defers size w runs.0 k.kept (Unlinks i c) runs.1) runs.2.0 i c [] runs.2.1 b cut
