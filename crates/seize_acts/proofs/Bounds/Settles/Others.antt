-- What the others do meanwhile leaves as much to a row that settles as before, where no other settles on its slot.
use Rattle.std.specs.Prelude.{Option, is_some}
use Rattle.std.proofs.Common.{◌≡◌, ℕ, suc, ◌+◌, ◌*◌, ◌<◌, Bool, true, List, length, refl, arith, ap, sym, subst, ◌∙◌}
use Rattle.seize_words.specs.OneMemory.Mem.{value_at}
use Rattle.seize.specs.declared.states.TheConstants.{LAST_SLOT}
use Rattle.seize.specs.declared.rows.settle.Settle.{Settle}
use Rattle.seize.specs.World.{World, Event, Happens}
use Rattle.seize_model.specs.Given.SeizeWaitingHeld.{count}
use Rattle.seize_model.proofs.Given.SeizeMovesState.Ghost.{State, Life, IsFree, Stage, Closing, is_doomed, is_in}
use Rattle.seize_model.proofs.Given.SeizeMovesState.Rule.{Inv, SameUnlessDead}
use Rattle.seize_model.proofs.Given.SeizeMemoryWords.Chains.{waiting}
use Rattle.seize_model.proofs.Given.SeizeMemoryWords.Shows.{CarrierIs, lives}
use Rattle.seize_model.proofs.Given.SeizeMemoryWords.There.{value_there}
use Rattle.seize_model.proofs.Given.SeizeMemoryWords.View.{list_in}
use Rattle.seize_model.proofs.Given.SeizeRulePoints.Aside.{is_handed}
use Rattle.seize_model.proofs.Given.SeizeRulePoints.Told.{Part, Pushing, part}
use Rattle.seize_model.proofs.Alone.Histories.Reached.{Reached}
use Rattle.seize_acts.proofs.Bounds.Bounds.Hands.{SameInHand, SameShut, in_batch}
use Rattle.seize_acts.proofs.Bounds.Bounds.Knows.{behind_count, pending_handed, put_handed}
use Rattle.seize_acts.proofs.Bounds.Bounds.Values.{value_kept}
use Rattle.seize_acts.proofs.Bounds.Settles.Carried.{FILLING, DRAINING, carriers, carriers_same, carried, retiring, taking, owes, is_draining, shut, shut_at}
use Rattle.seize_acts.proofs.Bounds.Settles.Measure.{here}
use Rattle.seize_model.proofs.Alone.Histories.Waiting.{in_hand}

-- what the collector has lives, and keeps a list if its value says so
handed_lives : (l : Life) → is_handed l ≡ true → lives l ≡ true
handed_lives l e = grind (arith, e)

carrier_is : (l : Life) (k : Bool) (o : Option ℕ) → is_handed l ≡ true → CarrierIs l k o → k ≡ is_some o
carrier_is IsFree k o h c = absurd (cc h)
carrier_is _ k o h c = c

-- the blocks of its lists are had by the collector
module _ (n j : ℕ) (m : State) (inv : Inv n m) where
  left_handed : (c : ℕ) → 0 < count c (m.left j) → is_handed (m.life c) ≡ true
  left_handed c p = by (m.life c) (count c (m.left j)) (inv.places.to_take j c) p
    where
      by : (l : Life) (k : ℕ) → k ≡ is_doomed j l → 0 < k → is_handed l ≡ true
      by l k e p = grind (arith, e, p)

  pendings_handed : (c : ℕ) → 0 < count c (m.pending j) → is_handed (m.life c) ≡ true
  pendings_handed c p = pending_handed j c (m.life c) (count c (m.pending j)) (count c (m.puts j)) (inv.places.to_retire j c) p

  puts_handed : (c : ℕ) → 0 < count c (m.puts j) → is_handed (m.life c) ≡ true
  puts_handed c p = put_handed j c (m.life c) (count c (m.pending j)) (count c (m.puts j)) (inv.places.to_retire j c) p

  open_handed : (s c : ℕ) → s < n → 0 < count c (m.blocks (m.open_batch s)) → is_handed (m.life c) ≡ true
  open_handed s c lt p =
      in_batch (m.open_batch s) (m.life c) (count c (m.blocks (m.open_batch s)))
      (subst (λ (k : Stage). SameUnlessDead k (count c (m.blocks (m.open_batch s))) (is_in (m.open_batch s) (m.life c))) (inv.batches.mine s lt)
      (inv.places.boxed (m.open_batch s) c)) p

  shut_handed : (b c : ℕ) → m.stage b ≡ Closing j → 0 < count c (m.blocks b) → is_handed (m.life c) ≡ true
  shut_handed b c stage p =
      in_batch b (m.life c) (count c (m.blocks b))
      (subst (λ (k : Stage). SameUnlessDead k (count c (m.blocks b)) (is_in b (m.life c))) stage (inv.places.boxed b c)) p

  -- the batch that it closes, by its number
  shut_is : (b : ℕ) → m.closing j ≡ b + 1 → shut_at m.blocks (m.closing j) ≡ m.blocks b
  shut_is b e = ap (shut_at m.blocks) (e ∙ next b)
    where
      next : (k : ℕ) → k + 1 ≡ suc k
      next k = omega arith

module _ {T : Type 0} (defers : T → Option ℕ) (size j : ℕ) where
  -- what is left to a row that settles so
  abbrev pub left_of : (w : World T) → Reached defers size w → Settle → ℕ
  left_of w r d = owes j d.slot (part d) r.good.state + here (r.good.state.puts j) d

  module _ (w v : World T) (r : Reached defers size w) (r2 : Reached defers size v) (e : Event T) (h : Happens defers size e w v) where
    abbrev m : State
    m = r.good.state

    abbrev m2 : State
    m2 = r2.good.state

    -- a block that the collector has before and after may keep a list as before
    flag : (c : ℕ) → is_handed (m.life c) ≡ true → is_handed (m2.life c) ≡ true → m2.carrier c ≡ m.carrier c
    flag c a b =
        let there = value_there defers (LAST_SLOT + 1) w.memory m r.good.extra c r.good.shows (handed_lives (m.life c) a) in
        let there2 = value_there defers (LAST_SLOT + 1) v.memory m2 r2.good.extra c r2.good.shows (handed_lives (m2.life c) b) in
        let same = value_kept defers size w v r c (in_hand (w.hand c) (m.life c) (r.good.hands c) a) there e h there2 in
        let was = carrier_is (m.life c) (m.carrier c) (list_in defers (value_at w.memory c)) a (r.good.shows.lists.carriers c) in
        let now = carrier_is (m2.life c) (m2.carrier c) (list_in defers (value_at v.memory c)) b (r2.good.shows.lists.carriers c) in
        now ∙ ap (λ (o : Option T). is_some (list_in defers o)) same ∙ sym was

    -- as many of these blocks
    as_many : (l l2 : List ℕ) → l2 ≡ l → ((c : ℕ) → 0 < count c l → is_handed (m.life c) ≡ true) → ((c : ℕ) → 0 < count c l2 → is_handed (m2.life c) ≡ true)
        → carriers m2.carrier l2 ≡ carriers m.carrier l
    as_many l l2 same a b =
        ap (carriers m2.carrier) same
        ∙ carriers_same m.carrier m2.carrier l (λ c p. flag c (a c p) (b c (subst (λ (k : List ℕ). 0 < count c k) (sym same) p)))

    module _ (d : Settle) (lt : d.slot < LAST_SLOT + 1) (hand : SameInHand j d m m2) (opened : m2.blocks (m2.open_batch d.slot) ≡ m.blocks (m.open_batch d.slot))
      where
        shut_same : (p : Part) → part d ≡ p → carriers m2.carrier (shut p m2.blocks (m2.closing j)) ≡ carriers m.carrier (shut p m.blocks (m.closing j))
        shut_same Pushing pushing =
            let s : SameShut j m m2 = hand.shut pushing in
            ap (carriers m2.carrier) (shut_is (LAST_SLOT + 1) j m2 r2.good.inv s.batch2 s.closing2)
            ∙ as_many (m.blocks s.batch) (m2.blocks s.batch2) s.blocks (λ c p. shut_handed (LAST_SLOT + 1) j m r.good.inv s.batch c s.stage p)
            (λ c p. shut_handed (LAST_SLOT + 1) j m2 r2.good.inv s.batch2 c s.stage2 p)
            ∙ ap (carriers m.carrier) (sym (shut_is (LAST_SLOT + 1) j m r.good.inv s.batch s.closing))
        shut_same _ other = refl

        left_same : (t : Bool) → carriers m2.carrier (waiting t (m2.left j)) ≡ carriers m.carrier (waiting t (m.left j))
        left_same t =
            as_many (waiting t (m.left j)) (waiting t (m2.left j)) (ap (waiting t) hand.left)
            (λ c p. left_handed (LAST_SLOT + 1) j m r.good.inv c (behind_count c t (m.left j) p))
            (λ c p. left_handed (LAST_SLOT + 1) j m2 r2.good.inv c (behind_count c t (m2.left j) p))

        carried_same : carried j d.slot (part d) m2 ≡ carried j d.slot (part d) m
        carried_same =
            let a = left_same (is_draining (part d)) in
            let b = as_many (m.puts j) (m2.puts j) hand.puts (puts_handed (LAST_SLOT + 1) j m r.good.inv) (puts_handed (LAST_SLOT + 1) j m2 r2.good.inv) in
            let c = as_many (m.pending j) (m2.pending j) hand.pending (pendings_handed (LAST_SLOT + 1) j m r.good.inv)
            (pendings_handed (LAST_SLOT + 1) j m2 r2.good.inv) in
            let o = as_many (m.blocks (m.open_batch d.slot)) (m2.blocks (m2.open_batch d.slot)) opened
            (λ c p. open_handed (LAST_SLOT + 1) j m r.good.inv d.slot c lt p)
            (λ c p. open_handed (LAST_SLOT + 1) j m2 r2.good.inv d.slot c lt p) in
            let s = shut_same (part d) refl in
            let l = hand.loose in
            omega (arith, a, b, c, o, s, l)

        retiring_same : retiring j m2 ≡ retiring j m
        retiring_same =
            let a = ap (length) hand.pending in
            let b = ap (length) hand.puts in
            omega (arith, a, b)

        taking_same : taking j m2 ≡ taking j m
        taking_same =
            let a = ap (length) hand.left in
            let b = hand.loose in
            omega (arith, a, b)

        pub still_left : left_of v r2 d ≡ left_of w r d
        still_left = sums _ _ _ _ _ _ _ _ carried_same retiring_same taking_same (ap (λ (l : List ℕ). here l d) hand.puts)
          where
            sums : (a a2 b b2 t t2 u u2 : ℕ) → a2 ≡ a → b2 ≡ b → t2 ≡ t → u2 ≡ u → DRAINING * a2 + FILLING * b2 + t2 + u2 ≡ DRAINING * a + FILLING * b + t + u
            sums a a2 b b2 t t2 u u2 e f g h = omega (arith, e, f, g, h)
