-- What a row that settles has in hand is the same, whatever one event of the others is; and its slot's batch is as it was, if no other settles there.
use Rattle.std.specs.Prelude.{Option, IsSome}
use Rattle.std.proofs.Common.{◌≡◌, ℕ, ◌+◌, ◌<◌, Bool, true, false, cond, eqb, List, [], ◌∷◌, length, inl, inr, refl, arith, ap, sym, subst, ◌∙◌}
use Rattle.seize_words.specs.declared.at.At.TheVariants.{Entry as EntryWord}
use Rattle.seize_words.specs.OneMemory.Mem.{Mem, word_at}
use Rattle.seize.specs.declared.states.TheConstants.{LAST_SLOT, LINK, NEXT}
use Rattle.seize.specs.declared.rows.settle.Settle.{Settle}
use Rattle.seize.specs.declared.rows.leave.Leave.{Leave}
use Rattle.seize.specs.declared.rows.leave.Leaving.{Leaving}
use Rattle.seize.specs.declared.rows.leave.Leaving.TheVariants as leaving
use Rattle.seize.specs.World.{World, Row, Settles, Leaves, Event, Begin, Step, Makes, Drops, Links, Parts, Unlinks, Rewrites, Operates, Ends, LeavesOver, Relinks, Clears, Chooses, Happens, Handed, LeftTo, Request, Register', Enter', Leave', LeaveOwned, Refresh, Unregister', Retire, Flush, Defer'}
use Rattle.seize.specs.Sequence.{IsBetween}
use Rattle.seize_model.specs.Given.SeizeWaitingHeld.{count}
use Rattle.seize_model.proofs.Given.SeizeMovesState.Ghost.{State, Entry, Stage, Closing, Life, is_in}
use Rattle.seize_model.proofs.Given.SeizeMovesState.Rule.{SameUnlessDead}
use Rattle.seize_model.proofs.Given.SeizeMovesState.Moves
use Rattle.seize_model.proofs.Given.SeizeMovesSets.Unmoved.{Unmoved}
use Rattle.seize_model.proofs.Given.SeizeMemoryWords.Chains.{Chain, blocks_of, count_first, waiting}
use Rattle.seize_model.proofs.Given.SeizeMemoryWords.Sums.{blocks_long}
use Rattle.seize_model.proofs.Given.SeizeMemoryWords.View.{view}
use Rattle.seize_model.proofs.Given.SeizeMemoryWords.Shows.{Extra, Spot, Nowhere, Unspent, On, InHands, SpotLife, LinkedIs, stands, is_in_hands}
use Rattle.seize_model.proofs.Given.SeizeRulePoints.Aside.{is_handed}
use Rattle.seize_model.proofs.Given.SeizeRulePoints.Known.{Fits, list_word}
use Rattle.seize_model.proofs.Given.SeizeRulePoints.Told.{Pushing, part}
use Rattle.seize_model.proofs.Given.SeizeRuleRows.Known.{FitsRow, FitsLeave}
use Rattle.seize_model.proofs.Given.SeizeRuleRows.SizesKept.{happens_sized}
use Rattle.seize_model.proofs.Given.SeizeRuleRows.Told.{BeginTold}
use Rattle.seize_model.proofs.Given.SeizeRuleWorld.Begins.{begins_next}
use Rattle.seize_model.proofs.Given.SeizeRuleWorld.Events.{leaves_over_good}
use Rattle.seize_model.proofs.Given.SeizeRuleWorld.Good.{Good}
use Rattle.seize_model.proofs.Given.SeizeRuleWorld.Kept.{IsStill, steps_next, users_good}
use Rattle.seize_model.proofs.Ends.Batches.Rows.{begins_memory}
use Rattle.seize_model.proofs.Alone.Histories.Reached.{Reached}
use Rattle.seize_acts.specs.Acts.Waits.{SettlesOn}
use Rattle.seize_acts.specs.Bounds.Bounds.{IsOfOthers}
use Rattle.seize_acts.proofs.Bounds.Bounds.Beside.{SameHand, beside, row_same}
use Rattle.seize_acts.proofs.Bounds.Bounds.Knows.{Known, Shutting, known_at, shutting_at, is_popped, popped_word, pending_agree, behind_count, pending_handed, put_handed}
use Rattle.seize_acts.proofs.Bounds.Bounds.Opened.{works_there, row_opened}
use Rattle.seize_acts.proofs.Bounds.Bounds.Values.{left_there}
use Rattle.seize_acts.proofs.Bounds.Bounds.Passing.{event_row}
use Rattle.seize_acts.proofs.Bounds.Bounds.Entries.{entry_of, SameEntries, users_entries, row_entries}
use Rattle.seize_model.proofs.Alone.Histories.Waiting.{in_hand}

-- words that agree on its blocks make the same chain
pub chains_agree : (end : ℕ) → end < 2048 → (f g : ℕ → ℕ) (w : ℕ) (l k : List ℕ) → ((c : ℕ) → 0 < count c l → g c ≡ f c) → Chain end f w l → Chain end g w k
    → k ≡ l
chains_agree end low f g w [] [] same a b = refl
chains_agree end low f g w [] (d ∷ k) same a b = absurd (let p = b.0 in let q = b.1 in omega (arith, a, p, q, low))
chains_agree end low f g w (c ∷ l) [] same a b = absurd (let p = a.0 in let q = a.1 in omega (arith, b, p, q, low))
chains_agree end low f g w (c ∷ l) (d ∷ k) same a b =
    let p = a.1 in
    let q = b.1 in
    let is : d ≡ c = omega (arith, p, q) in
    let next : g d ≡ f c = ap g is ∙ same c (count_first c l) in
    let ih = chains_agree end low f g (f c) l k (λ x h. same x (more x h)) a.2 (subst (λ (u : ℕ). Chain end g u k) next b.2) in
    cc (is, ih)
  where
    more : (x : ℕ) → 0 < count x l → 0 < count x (c ∷ l)
    more x h = omega (arith, h)

some_stands : (c : ℕ) (es : List Entry) → 0 < count c (blocks_of es) → (b : ℕ) × (0 < stands c b es)
some_stands c [] h = absurd (omega (arith, h))
some_stands c (e ∷ es) h = by (eqb c e.block) refl h (some_stands c es)
  where
    by : (t : Bool) → eqb c e.block ≡ t → 0 < cond t 1 0 + count c (blocks_of es) → (0 < count c (blocks_of es) → (b : ℕ) × (0 < stands c b es))
        → (b : ℕ) × (0 < stands c b (e ∷ es))
    by true is k rest = (e.batch, grind (arith, is))
    by false is k rest = let r = rest (omega (arith, k)) in (r.0, let p = r.1 in omega (arith, p))

in_hands : (j b : ℕ) (s : Spot) (l : Life) → 0 < is_in_hands j b s → SpotLife s l → is_handed l ≡ true
in_hands j b Nowhere l some is = absurd (omega (arith, some))
in_hands j b (Unspent x) l some is = absurd (omega (arith, some))
in_hands j b (On t x) l some is = absurd (omega (arith, some))
in_hands j b (InHands i x) l some is = ap is_handed is

-- the batch that it closes has the same blocks
pub record SameShut (j : ℕ) (m m2 : State) : Type 0 where
  pub batch : ℕ
  pub batch2 : ℕ
  pub closing : m.closing j ≡ batch + 1
  pub closing2 : m2.closing j ≡ batch2 + 1
  pub stage : m.stage batch ≡ Closing j
  pub stage2 : m2.stage batch2 ≡ Closing j
  pub blocks : m2.blocks batch2 ≡ m.blocks batch

-- the same blocks are in its hand, as many entries, and the batch that it closes
pub record SameInHand (j : ℕ) (d : Settle) (m m2 : State) : Type 0 where
  pub loose : length (m2.loose j) ≡ length (m.loose j)
  pub left : m2.left j ≡ m.left j
  pub pending : m2.pending j ≡ m.pending j
  pub puts : m2.puts j ≡ m.puts j
  pub shut : part d ≡ Pushing → SameShut j m m2

-- the open batch of a slot is as it was, if no row but this one settles there
abbrev pub StaysOpen : {T : Type 0} → ℕ → World T → State → State → Type 0
StaysOpen j w m m2 = (s : ℕ) → s < LAST_SLOT + 1 → ((i : ℕ) → (i ≡ j → ⊥) → SettlesOn s (w.row i) → ⊥) → m2.blocks (m2.open_batch s) ≡ m.blocks (m.open_batch s)

-- a block of a batch is had by the collector
pub in_batch : (x : ℕ) (l : Life) (k : ℕ) → k ≡ is_in x l → 0 < k → is_handed l ≡ true
in_batch x l k e p = grind (arith, e, p)

-- what is so of a row that settles, by its settling
abbrev pub FitsIn : {T : Type 0} → (T → Option ℕ) → ℕ → ℕ → Row → Settle → Type 0
FitsIn {T} defers size j row d =
    (w : World T) (good : Good defers (LAST_SLOT + 1) size w) → w.row j ≡ row → Fits (LAST_SLOT + 1) j (view defers w.memory) good.state good.extra d

module _ {T : Type 0} (defers : T → Option ℕ) (size j : ℕ) where
  -- a row that settles as it leaves
  pub leaving_fits : (c : Leave) (d : Settle) → c.stands ≡ leaving.Settles d → FitsIn defers size j (Leaves c) d
  leaving_fits c d stands_at w good is =
      (subst (λ (p : Leaving). FitsLeave (LAST_SLOT + 1) j (view defers w.memory) good.state good.extra c.slot c.becomes c.frees p) stands_at
      (subst (λ (r : Row). FitsRow (LAST_SLOT + 1) j (view defers w.memory) good.state good.extra (length w.memory.slots) r) is (good.rows j))).settles

  -- or only settles
  pub settling_fits : (d : Settle) → FitsIn defers size j (Settles d) d
  settling_fits d w good is =
      subst (λ (r : Row). FitsRow (LAST_SLOT + 1) j (view defers w.memory) good.state good.extra (length w.memory.slots) r) is (good.rows j)

  module _ (row : Row) (d : Settle) (fits_in : FitsIn defers size j row d) where
    module _ (w v : World T) (good : Good defers (LAST_SLOT + 1) size w) (good2 : Good defers (LAST_SLOT + 1) size v) (is : w.row j ≡ row)
        (is2 : v.row j ≡ row) where
      before : Known (LAST_SLOT + 1) j good.state good.extra d (is_popped d.stands) (popped_word d.stands)
      before = known_at (LAST_SLOT + 1) j (view defers w.memory) good.state good.extra d d.stands (fits_in w good is)

      after : Known (LAST_SLOT + 1) j good2.state good2.extra d (is_popped d.stands) (popped_word d.stands)
      after = known_at (LAST_SLOT + 1) j (view defers v.memory) good2.state good2.extra d d.stands (fits_in v good2 is2)

      handed_of : (b : ℕ) → is_handed (good.state.life b) ≡ true → w.hand b ≡ Handed
      handed_of b e = in_hand (w.hand b) (good.state.life b) (good.hands b) e

      -- its list is as long as long as the words of its entries are the same
      loose_same : SameEntries LINK w.hand w.memory v.memory → length (good2.state.loose j) ≡ length (good.state.loose j)
      loose_same links =
          let k = ap (length) (chains_agree 3 (omega arith) (view defers w.memory).links (view defers v.memory).links (list_word d.list)
          (blocks_of (good.state.loose j)) (blocks_of (good2.state.loose j))
          (λ b p. links b (handed b p))
          (subst (λ (u : ℕ). Chain 3 (view defers w.memory).links u (blocks_of (good.state.loose j))) before.common.hand (good.shows.entries.loosed j))
          (subst (λ (u : ℕ). Chain 3 (view defers v.memory).links u (blocks_of (good2.state.loose j))) after.common.hand (good2.shows.entries.loosed j))) in
          let p = blocks_long (good.state.loose j) in
          let q = blocks_long (good2.state.loose j) in
          omega (arith, k, p, q)
        where
          handed : (b : ℕ) → 0 < count b (blocks_of (good.state.loose j)) → w.hand b ≡ Handed
          handed b p =
              let s = some_stands b (good.state.loose j) p in
              let some : 0 < is_in_hands j s.0 (good.extra.spot b) = (let e = good.shows.entries.hands j s.0 b in let q = s.1 in omega (arith, e, q)) in
              handed_of b (in_hands j s.0 (good.extra.spot b) (good.state.life b) some (good.shows.entries.spots b))

      module _ (nexts : SameEntries NEXT w.hand w.memory v.memory) where
        -- and so are the blocks that it is still to retire
        pending_same : good2.state.pending j ≡ good.state.pending j
        pending_same =
            pending_agree (is_popped d.stands) (popped_word d.stands) (good.state.pending j) (good2.state.pending j) before.some after.some
            (chains_agree 0 (omega arith) (view defers w.memory).nexts (view defers v.memory).nexts d.pending
            (waiting (is_popped d.stands) (good.state.pending j))
            (waiting (is_popped d.stands) (good2.state.pending j))
            (λ b p. nexts b (handed b (behind_count b (is_popped d.stands) (good.state.pending j) p)))
            (pended (view defers w.memory).nexts good.extra good.state before (good.shows.lists.pended j))
            (pended (view defers v.memory).nexts good2.extra good2.state after (good2.shows.lists.pended j)))
          where
            pended : (f : ℕ → ℕ) (x : Extra) (m : State) → Known (LAST_SLOT + 1) j m x d (is_popped d.stands) (popped_word d.stands)
                → Chain 0 f (x.pends j) (waiting (x.popped j) (m.pending j))
                → Chain 0 f d.pending (waiting (is_popped d.stands) (m.pending j))
            pended f x m k chain =
                subst (λ (u : ℕ). Chain 0 f u (waiting (is_popped d.stands) (m.pending j))) k.common.pends
                (subst (λ (t : Bool). Chain 0 f (x.pends j) (waiting t (m.pending j))) k.popped chain)

            handed : (b : ℕ) → 0 < count b (good.state.pending j) → w.hand b ≡ Handed
            handed b p = handed_of b (pending_handed j b (good.state.life b)
                (count b (good.state.pending j)) (count b (good.state.puts j)) (good.inv.places.to_retire j b) p)

        -- those that were put
        puts_same : good2.state.puts j ≡ good.state.puts j
        puts_same =
            chains_agree 0 (omega arith) (view defers w.memory).nexts (view defers v.memory).nexts d.put_first (good.state.puts j) (good2.state.puts j)
            (λ b p. nexts b (handed_of b (put_handed j b (good.state.life b) (count b (good.state.pending j)) (count b (good.state.puts j))
            (good.inv.places.to_retire j b) p)))
            (subst (λ (u : ℕ). Chain 0 (view defers w.memory).nexts u (good.state.puts j)) before.common.put_first (good.shows.lists.putted j))
            (subst (λ (u : ℕ). Chain 0 (view defers v.memory).nexts u (good2.state.puts j)) after.common.put_first (good2.shows.lists.putted j))

        -- and those of the batch that it closes
        shut_same : part d ≡ Pushing → SameShut j good.state good2.state
        shut_same pushing = record {
          batch = s.batch;
          batch2 = t.batch;
          closing = s.closing;
          closing2 = t.closing;
          stage = s.stage;
          stage2 = t.stage;
          blocks = chains_agree 0 (omega arith) (view defers w.memory).nexts (view defers v.memory).nexts d.first (good.state.blocks s.batch)
              (good2.state.blocks t.batch) (λ b p. nexts b (handed_of b (boxed b p)))
              (subst (λ (u : ℕ). Chain 0 (view defers w.memory).nexts u (good.state.blocks s.batch)) (sym s.first_is)
              (subst (λ (k : Stage). LinkedIs (view defers w.memory).nexts (good.extra.behind s.batch) k (good.state.blocks s.batch)) s.stage
              (good.shows.linkage.linked s.batch)))
              (subst (λ (u : ℕ). Chain 0 (view defers v.memory).nexts u (good2.state.blocks t.batch)) (sym t.first_is)
              (subst (λ (k : Stage). LinkedIs (view defers v.memory).nexts (good2.extra.behind t.batch) k (good2.state.blocks t.batch)) t.stage
              (good2.shows.linkage.linked t.batch)));
        }
          where
            s : Shutting j good.state d.first
            s = shutting_at (LAST_SLOT + 1) j (view defers w.memory) good.state good.extra d d.flushing d.stands (fits_in w good is) pushing

            t : Shutting j good2.state d.first
            t = shutting_at (LAST_SLOT + 1) j (view defers v.memory) good2.state good2.extra d d.flushing d.stands (fits_in v good2 is2) pushing

            boxed : (b : ℕ) → 0 < count b (good.state.blocks s.batch) → is_handed (good.state.life b) ≡ true
            boxed b p = in_batch s.batch (good.state.life b) (count b (good.state.blocks s.batch))
                (subst (λ (k : Stage). SameUnlessDead k (count b (good.state.blocks s.batch)) (is_in s.batch (good.state.life b))) s.stage
                (good.inv.places.boxed s.batch b)) p

      unmoved_hand : Unmoved (LAST_SLOT + 1) good.state good2.state → SameEntries LINK w.hand w.memory v.memory → SameEntries NEXT w.hand w.memory v.memory
          → SameInHand j d good.state good2.state
      unmoved_hand u links nexts = record {
        loose = loose_same links;
        left = ap (λ (f : ℕ → List ℕ). f j) u.left;
        pending = pending_same nexts;
        puts = puts_same nexts;
        shut = shut_same nexts;
      }

      same_hand : SameHand j good.state good2.state → SameInHand j d good.state good2.state
      same_hand h = record { loose = ap (length) h.loose; left = h.left; pending = h.pending; puts = h.puts; shut = shut }
        where
          shut : part d ≡ Pushing → SameShut j good.state good2.state
          shut pushing =
              let s = shutting_at (LAST_SLOT + 1) j (view defers w.memory) good.state good.extra d d.flushing d.stands (fits_in w good is) pushing in
              let t = shutting_at (LAST_SLOT + 1) j (view defers v.memory) good2.state good2.extra d d.flushing d.stands (fits_in v good2 is2) pushing in
              let a = s.closing in
              let b = t.closing in
              let c = h.closing in
              let same : t.batch ≡ s.batch = omega (arith, a, b, c) in
              record {
                batch = s.batch;
                batch2 = t.batch;
                closing = s.closing;
                closing2 = t.closing;
                stage = s.stage;
                stage2 = t.stage;
                blocks = ap good2.state.blocks same ∙ h.shut s.batch s.stage;
              }

      by_state : (q : State) → good2.state ≡ q → SameHand j good.state q → SameInHand j d good.state good2.state
      by_state q e h = same_hand (subst (λ (m : State). SameHand j good.state m) (sym e) h)

      -- where the state is the same, but for this
      begun_hand : (i : ℕ) (request : Request) → (j ≡ i → ⊥) → v.memory ≡ w.memory → BeginTold (LAST_SLOT + 1) i request good.state good2.state
          → SameInHand j d good.state good2.state
      begun_hand i request ne memory told = by request told
        where
          kept : (field : ℕ) → SameEntries field w.hand w.memory v.memory
          kept field b k = ap (λ (q : Mem T). entry_of field q b) memory

          unmoved : Unmoved (LAST_SLOT + 1) good.state good2.state → SameInHand j d good.state good2.state
          unmoved u = unmoved_hand u (kept LINK) (kept NEXT)

          by : (request : Request) → BeginTold (LAST_SLOT + 1) i request good.state good2.state → SameInHand j d good.state good2.state
          by (Retire s b) told = by_state (Moves.begins_retire good.state i b) told
              (record {
                loose = refl;
                left = refl;
                pending = beside (LAST_SLOT + 1) i j ne good.state good2.state good.state.pending (b ∷ good.state.pending i);
                puts = refl;
                closing = refl;
                shut = λ y e. refl;
              })
          by (Flush s) told = by_state good.state told
              (record { loose = refl; left = refl; pending = refl; puts = refl; closing = refl; shut = λ y e. refl })
          by (Register' enters) told = unmoved told
          by (Enter' s) told = unmoved told
          by (Leave' s) told = unmoved told
          by (LeaveOwned s) told = unmoved told
          by (Refresh s) told = unmoved told
          by (Unregister' s) told = unmoved told
          by (Defer' s b t) told = unmoved told

    module _ (w v : World T) (r : Reached defers size w) (is : w.row j ≡ row) where
      -- after an event the world is one that can be reached, in which the row has as much in hand
      pub record After : Type 0 where
        pub reached : Reached defers size v
        pub row_is : v.row j ≡ row
        pub hand : SameInHand j d r.good.state reached.good.state
        pub opened : StaysOpen j w r.good.state reached.good.state

      left : (b i : ℕ) → w.hand b ≡ LeftTo i → IsSome (word_at w.memory (EntryWord b NEXT))
      left b i e = left_there defers size w v r b i e

      came : (e : Event T) → Happens defers size e w v → (good2 : Good defers (LAST_SLOT + 1) size v) → v.row j ≡ row → SameInHand j d r.good.state good2.state
          → StaysOpen j w r.good.state good2.state → After
      came e h good2 on hand opened =
          record { reached = record { good = good2; sized = happens_sized defers size w v r.sized e h }; row_is = on; hand = hand; opened = opened }

      still_open : (m : State) → Unmoved (LAST_SLOT + 1) r.good.state m → StaysOpen j w r.good.state m
      still_open m u s lt none = u.alike.opened s lt

      between : (e : Event T) → IsBetween e → IsStill e → IsOfOthers j e → Happens defers size e w v → After
      between e u still ne h =
          let on = event_row defers size j e w v ne h ∙ is in
          let g = users_good defers (LAST_SLOT + 1) size refl w v r.good r.sized e still h in
          came e h g.0 on
          (unmoved_hand w v r.good g.0 is on g.1 (users_entries defers size LINK w v left e u h) (users_entries defers size NEXT w v left e u h))
          (still_open g.0.state g.1)

      begun_open : (i : ℕ) (request : Request) (m : State) → BeginTold (LAST_SLOT + 1) i request r.good.state m → StaysOpen j w r.good.state m
      begun_open i (Retire s b) m told = λ t lt none. ap (λ (q : State). q.blocks (q.open_batch t)) told
      begun_open i (Flush s) m told = λ t lt none. ap (λ (q : State). q.blocks (q.open_batch t)) told
      begun_open i (Register' enters) m told = still_open m told
      begun_open i (Enter' s) m told = still_open m told
      begun_open i (Leave' s) m told = still_open m told
      begun_open i (LeaveOwned s) m told = still_open m told
      begun_open i (Refresh s) m told = still_open m told
      begun_open i (Unregister' s) m told = still_open m told
      begun_open i (Defer' s b t) m told = still_open m told

      pub after_event : (e : Event T) → IsOfOthers j e → Happens defers size e w v → After
      after_event (Begin i request) ne h =
          let on = event_row defers size j (Begin i request) w v ne h ∙ is in
          let g = begins_next defers (LAST_SLOT + 1) size refl w v r.good i h.0 request h.1 in
          came (Begin i request) h g.0 on
          (begun_hand w v r.good g.0 is on i request (λ z. ne (sym z)) (begins_memory defers size i request w v h.1) g.1)
          (begun_open i request g.0.state g.1)
      after_event (Step i) ne h =
          let on = event_row defers size j (Step i) w v ne h ∙ is in
          let next = steps_next defers (LAST_SLOT + 1) size refl w v r.good r.sized i (w.row i) refl h in
          came (Step i) h next.good on
          (elim (row_same (LAST_SLOT + 1) i j (λ z. ne (sym z)) r.good.state next.good.state r.good.inv (w.row i) (v.row i) w.uses v.uses
          (works_there defers size w r.good i) next.told)
          as (λ _. SameInHand j d r.good.state next.good.state) [
            | inl same ↦ same_hand w v r.good next.good is on same
            | inr beside ↦ (let nexts = row_entries defers size NEXT w v left i (w.row i) beside.aside h in
                record {
                  loose = loose_same w v r.good next.good is on (row_entries defers size LINK w v left i (w.row i) beside.aside h);
                  left = beside.left;
                  pending = pending_same w v r.good next.good is on nexts;
                  puts = puts_same w v r.good next.good is on nexts;
                  shut = shut_same w v r.good next.good is on nexts;
                })
          ])
          (λ s lt none. row_opened (LAST_SLOT + 1) i s r.good.state next.good.state r.good.inv lt (w.row i) (v.row i) w.uses v.uses
          (works_there defers size w r.good i) (none i ne) next.told)
      after_event (LeavesOver i b further) ne h =
          let on = event_row defers size j (LeavesOver i b further) w v ne h ∙ is in
          let g = leaves_over_good defers (LAST_SLOT + 1) size w v r.good i b further h in
          came (LeavesOver i b further) h g.0 on
          (by_state w v r.good g.0 is on (Moves.left_over r.good.state i b) g.1
          (record { loose = refl; left = refl; pending = refl; puts = refl; closing = refl; shut = λ y k. refl }))
          (λ t lt none. ap (λ (q : State). q.blocks (q.open_batch t)) g.1)
      after_event (Makes i value words) ne h = between (Makes i value words) tt tt ne h
      after_event (Drops i b) ne h = between (Drops i b) tt tt ne h
      after_event (Links i b o) ne h = between (Links i b o) tt tt ne h
      after_event (Parts i b) ne h = between (Parts i b) tt tt ne h
      after_event (Unlinks i b) ne h = between (Unlinks i b) tt tt ne h
      after_event (Rewrites i b value) ne h = between (Rewrites i b value) tt tt ne h
      after_event (Operates op) ne h = between (Operates op) tt tt ne h
      after_event (Ends i o) ne h = between (Ends i o) tt tt ne h
      after_event (Relinks i b word) ne h = between (Relinks i b word) tt tt ne h
      after_event (Clears i b) ne h = between (Clears i b) tt tt ne h
      after_event (Chooses choice) ne h = between (Chooses choice) tt tt ne h
