-- In blocking mode, a step of a call, of whichever kind, leaves each copying that is not over with who ends it: one beside a copying, and one of the copier within which it stands.
use Rattle.std.specs.Prelude.{if◌then◌else◌, Option, Some, None}
use Rattle.std.specs.Int.{IsPowerOfTwo}
use Rattle.std.proofs.Common.{◌≡◌, ◌≢◌, ℕ, ◌<◌, ◌≤◌, ◌⊎◌, inl, inr, Bool, true, false, refl, ap, sym, subst, ◌∙◌, arith}
use Rattle.seize_words.specs.OneMemory.Mem.{Can, Mem, Took, value_at, word_at}
use Rattle.seize_words.specs.OneMemory.Plan.{May, Steps}
use Rattle.seize_words.specs.declared.at.At.TheVariants.{Word}
use Rattle.seize.specs.World.{World, IsInside, with_at}
use Rattle.map_machines.specs.Copier.{copier_plan, plan_at}
use Rattle.map_machines.specs.CopierStates.{behind, none_left, standing}
use Rattle.map_machines.specs.declared.yielding.Yielding.{Yielding}
use Rattle.map_machines.specs.declared.yielding.Yielding.TheVariants.{Goes}
use Rattle.map_tables.specs.TablePlaces.{at_word}
use Rattle.map_tables.specs.declared.table_words.TheConstants.{CLAIM, COPIED}
use Rattle.many_calls.specs.Given.RuleMoments.{Moments}
use Rattle.many_calls.specs.Given.PointsSteps.{AreLawful}
use Rattle.many_calls.specs.Given.LateLateCopies.{CopiesSuperseded, SupersededCopierFacts, SupersededCopying}
use Rattle.many_calls.specs.Given.PointsFactsCopiesBlocking.{CopiesInto, CopierFactsBlocking, CopyingFactsBlocking, HasDoneIn, RestsIn}
use Rattle.map_tables.specs.Chunks.{is_incremental}
use Rattle.map_tables.specs.declared.node.Node.{Node}
use Rattle.map_tables.specs.declared.setting.Setting.{Setting}
use Rattle.map_machines.specs.declared.copier.Copier.{Copier}
use Rattle.map_machines.specs.declared.copier.Copying.TheVariants as at
use Rattle.many_calls.specs.Given.RuleChart.{Chart}
use Rattle.many_calls.specs.Given.RuleWords.{Blocks}
use Rattle.many_calls.specs.Given.PointsTold.{IsRowOfCopier}
use Rattle.many_calls.specs.Given.RuleMaps.{spot_of, IsTable}
use Rattle.many_calls.specs.Given.RuleRule.{Rule}
use Rattle.map_tables.specs.declared.table.Table.{Table}
use Rattle.map_machines.specs.declared.copier.Copying.{Copying as Point}
use Rattle.many_calls.specs.Given.RuleInWorld.{IsMapIn}
use Rattle.map_machines.specs.NewTable.{counted}
use Rattle.many_calls.specs.Sights.{Visible, seen_by}
use Rattle.many_calls.specs.Together.{UnderWay, Together, in_slot}
use Rattle.many_calls.proofs.Given.PointsBlocking.Points.{may_copier_blocking}
use Rattle.many_calls.proofs.Given.LateCopiers.Points.{may_late_copier}
use Rattle.many_calls.proofs.Given.RuleSpared.{step_spares}
use Rattle.many_calls.proofs.Given.RuleWords.TablesSeen.{len_is, word_stands}
use Rattle.many_calls.proofs.Together.Few.{claim_few}
use Rattle.many_calls.proofs.Claims.Knows.{CopierKnows, fresh_knows, late_knows}
use Rattle.map_measures.proofs.Waits.EndingCalls.{AnotherAt, OwnEnds, copier_then}
use Rattle.map_measures.proofs.Waits.Promised.{map_of}
use Rattle.map_measures.specs.Waits.Others.{copier_of, EndsAt}
use Rattle.map_measures.specs.Waiters.Blocking.{AbortsAt, HaveEndsBlocking, SpentAt}
use Rattle.map_measures.proofs.Waiters.Stands.{IsAtRow, beside_none, copier_knows}
use Rattle.map_measures.proofs.Waiters.Awaited.{asks_so}
use Rattle.map_measures.proofs.Waiters.Moves.{AllKept, or_own}
use Rattle.map_measures.proofs.Waiters.Reached.{MovedSo, Reached, aside_keeps, moved, past_on, rule, shows}
use Rattle.map_measures.proofs.Waiters.Writes.{copied_spares, copied_word}
use Rattle.map_measures.proofs.Waiters.Copiers.{IsAside, copier_aborts, copier_announces, copier_aside, first_as_before}
use Rattle.map_measures.proofs.Waiters.Counts.{copier_counts}
use Rattle.map_measures.proofs.Waiters.Promotes.{copier_promotes}
use Rattle.map_measures.proofs.Waiters.Late.{late_keeps}
use Rattle.map_measures.proofs.Waiters.Works.{IsCopying, few_done, works_keep, works_on, IsWork}
use Rattle.map_measures.proofs.Waiters.Spent.{IsUnspent, asks_on, blind_unspent, claims_claim, sees_claim, stays_claimed, unspent_at, IsBlind}
use Rattle.map_measures.proofs.Waiters.Own.{OwnLoses, OwnSpent, as_own, with_own}

module _ {K Q : Type 0} (V : Type 0) (same : K → K → Bool) (hash : K → ℕ) (asks : Q → K → Bool) (setting : Setting) (slot : ℕ → ℕ)
    (are : AreLawful same hash) (power : IsPowerOfTwo setting.initial) (mode : is_incremental setting.mode ≡ false)
    (w : World (Node K V)) (c : Chart K) (blocks : Blocks) (sights : ℕ → Visible) (calls : ℕ → Option (UnderWay K V Q))
    (s : Together V same hash asks setting slot w c blocks sights calls) (all : HaveEndsBlocking c calls) (i : ℕ) (x : UnderWay K V Q) (has : calls i ≡ Some x)
    (in_it : IsInside (w.uses (slot i))) where
  abbrev pub seen : Blocks
  seen = seen_by blocks (sights (slot i))

  abbrev pub its_setting : Setting
  its_setting = in_slot setting (slot i)

  pub its_map : IsMapIn same hash its_setting w c seen
  its_map = map_of V same hash asks setting slot w c blocks sights calls s i in_it

  abbrev P : ℕ → Type 0
  P = AnotherAt calls i at.Promotes

  abbrev A : ℕ → Type 0
  A = AnotherAt calls i at.Announces

  abbrev G : ℕ → Type 0
  G = AnotherAt calls i at.Aborts

  -- where a step has led, and what the caller's call has become
  module _ (m2 : Mem (Node K V)) (d : Chart K) (blocks2 : Blocks) (r : Reached same hash its_setting mode w i c seen its_map m2 d blocks2) (next : Option (UnderWay K V Q)) where
    its_rule : Rule same (spot_of hash) false c
    its_rule = rule same hash its_setting mode w i c seen its_map m2 d blocks2

    its_move : MovedSo same hash its_setting mode w i c seen its_map m2 d blocks2 false
    its_move = moved same hash its_setting mode w i c seen its_map m2 d blocks2 r

    -- places stay claimed
    claimed_still : (t : ℕ) → t < c.past → (c.first < t → c.len c.first ≤ c.claim t) → d.first < t → d.len d.first ≤ d.claim t
    claimed_still t made full behind = by its_move
      where
        by : MovedSo same hash its_setting mode w i c seen its_map m2 d blocks2 false → d.len d.first ≤ d.claim t
        by (inl is) = stays_claimed same hash c its_rule t made full d (λ move. Unit {0}) (inl is) behind
        by (inr (move, allowed, is, own)) = stays_claimed same hash c its_rule t made full d (λ move. Unit {0}) (inr (move, allowed, is, tt)) behind

    still_spent : (p : Copier) (stands : Point) → (stands ≡ at.Asks → p.target.turn < c.past) → SpentAt c p stands → SpentAt d p stands
    still_spent p at.Asks made old = λ spent behind there. claimed_still p.target.turn (made refl) (λ ahead. old spent ahead (made refl)) behind
    still_spent p at.Over made old = tt
    still_spent p _ made old = old

    -- so it is of all others
    others_spent : (k : ℕ) (u : UnderWay K V Q) (p : Copier) → calls k ≡ Some u → k ≢ i → copier_of u ≡ Some p → SpentAt d p p.stands
    others_spent k u p is other of = still_spent p p.stands
        (λ here. (let asked = asks_so V same hash asks setting slot w c blocks sights calls s mode k p here u is of in
        let turn : p.target.turn ≡ asked.1 = ap (λ (y : Table). y.turn) asked.3.is in let made = asked.3.made in omega (arith, turn, made)))
        (all.spent k u is p of)

    -- a step beside a copying
    pub beside_keeps : copier_of x ≡ None → (IsAtRow x → ⊥) → d.first ≡ c.first → OwnSpent d (copier_then next) → HaveEndsBlocking d (with_at calls i next)
    beside_keeps within row first spent =
        with_own calls i d next
        (or_own P A G d (OwnEnds d (copier_then next)) (OwnLoses d (copier_then next))
        (aside_keeps same hash its_setting mode w i c seen its_map m2 d blocks2 r P A G first (beside_none V same hash asks setting slot w c blocks sights calls s mode i x has within row)
        (λ t. ⊥) (λ t. ⊥) (subst (λ (o : Option Copier). AllKept P A G c (OwnEnds c o) (OwnLoses c o)) (ap copier_then has ∙ within) (as_own calls i c all))))
        spent others_spent

    -- a step of the copier within which it stands
    module _ (p : Copier) (within : copier_of x ≡ Some p) (row : IsRowOfCopier p.stands → ⊥) (b : Copier × Yielding (Node K V) Table)
        (steps : Steps Took value_at w.memory (copier_plan hash p) m2 b) (comes : ((b.1 ≡ Goes → ⊥) × (copier_then next ≡ None)) ⊎ (copier_then next ≡ Some b.0))
        (w2 : World (Node K V)) (seen2 : Blocks)
        (knows2 : copier_then next ≡ Some b.0 → (IsRowOfCopier b.0.stands → ⊥)
        → CopierFactsBlocking same hash w2 i its_setting d seen2 b.0 ⊎ ((began : ℕ) × SupersededCopierFacts same hash w2 i its_setting d seen2 began b.0)) where
      knows : CopierFactsBlocking same hash w i its_setting c seen p ⊎ ((began : ℕ) × SupersededCopierFacts same hash w i its_setting c seen began p)
      knows = copier_knows V same hash asks setting slot w c blocks sights calls s mode i p x has within row

      abbrev Then : Type 0
      Then = AllKept P A G d (OwnEnds d (copier_then next)) (OwnLoses d (copier_then next))

      -- nobody is to do more than before; or this copier goes on
      with_none : AllKept P A G d (λ t. ⊥) (λ t. ⊥) → Then
      with_none kept = or_own P A G d (OwnEnds d (copier_then next)) (OwnLoses d (copier_then next)) kept

      goes_on : b.1 ≡ Goes → copier_then next ≡ Some b.0
      goes_on goes = by comes
        where
          by : ((b.1 ≡ Goes → ⊥) × (copier_then next ≡ None)) ⊎ (copier_then next ≡ Some b.0) → copier_then next ≡ Some b.0
          by (inl none) = absurd (none.0 goes)
          by (inr is) = is

      with_this : (q : Copier) → b ≡ (q, Goes) → AllKept P A G d (λ t. EndsAt d q q.stands t) (λ t. AbortsAt d q q.stands t) → Then
      with_this q is kept =
          subst (λ (o : Option Copier). AllKept P A G d (OwnEnds d o) (OwnLoses d o))
          (sym (goes_on (ap (λ (e : Copier × Yielding (Node K V) Table). e.1) is) ∙ ap (λ (e : Copier × Yielding (Node K V) Table). Some e.0) is)) kept

      before : AllKept P A G c (λ t. EndsAt c p p.stands t) (λ t. AbortsAt c p p.stands t)
      before = subst (λ (o : Option Copier). AllKept P A G c (OwnEnds c o) (OwnLoses c o)) (ap copier_then has ∙ within) (as_own calls i c all)

      -- in the root
      module _ (facts : CopierFactsBlocking same hash w i its_setting c seen p) where
        may : May Can Took value_at w.memory (copier_plan hash p)
        may = may_copier_blocking same hash are.fits are.lawful i its_setting mode power w c seen its_map p facts row

        first_stays : (p.stands ≡ at.Promotes → ⊥) → d.first ≡ c.first
        first_stays other = first_as_before same hash are.fits are.lawful i its_setting mode power w c seen its_map p facts m2 b steps d blocks2 r P A G row other

        -- the count of its target stays but where it counts
        copied_stays : (t : ℕ) → IsTable c seen p.target t → (p.stands ≡ at.Counts → ⊥) → d.copied t ≡ c.copied t
        copied_stays t target other = (let both = sym read ∙ kept in cc both)
          where
            kept : word_at m2 (Word (seen.table t) COPIED) ≡ Some (c.copied t)
            kept =
                step_spares (copied_word same hash w i its_setting c seen its_map t target.made target.known) tt w.memory _ (its_map.map.shows.tables t target.made target.known).copied (copier_plan hash p) m2 b
                (copied_spares same hash w i its_setting c seen its_map t target.made target.known p (fresh_knows same hash w i its_setting c seen its_map p p.stands facts.point row) other) may steps

            same_table : (blocks2.table t ≡ seen.table t) × (blocks2.table_known t ≡ true)
            same_table = r.3.tables t target.made target.known

            read : word_at m2 (Word (seen.table t) COPIED) ≡ Some (d.copied t)
            read =
                subst (λ (n : ℕ). word_at m2 (Word n COPIED) ≡ Some (d.copied t)) same_table.0
                ((shows same hash its_setting mode w i c seen its_map m2 d blocks2 r).tables t (past_on same hash its_setting mode w i c seen its_map m2 d blocks2 r t target.made) same_table.1).copied

        not_counts : (stands : Point) → IsCopying stands → (stands ≡ at.Counts → ⊥) × (stands ≡ at.Promotes → ⊥)
        not_counts at.Marks its = ((λ e. cc e), (λ e. cc e))
        not_counts (at.Probes word code table probe) its = ((λ e. cc e), (λ e. cc e))
        not_counts (at.Puts word code table probe) its = ((λ e. cc e), (λ e. cc e))
        not_counts _ its = absurd its

        no_row_at_work : (stands : Point) → IsWork stands → IsRowOfCopier stands → ⊥
        no_row_at_work at.Marks its row = row
        no_row_at_work (at.Probes word code table probe) its row = row
        no_row_at_work (at.Puts word code table probe) its row = row
        no_row_at_work at.Counts its row = row
        no_row_at_work at.Aborts its row = row
        no_row_at_work _ its row = its

        working : IsCopying p.stands → (t : ℕ) → CopiesInto same hash w i its_setting c seen p t → HasDoneIn same hash w i its_setting c seen t p.done → AllKept P A G c (λ u. ⊥) (λ u. ⊥) → Then
        working its t into done kept =
            let stays = copied_stays t into.2 (not_counts p.stands its).0 in
            let first = first_stays (not_counts p.stands its).1 in
            let few = few_done same hash i its_setting mode w c seen its_map p m2 d blocks2 r P A G t into done first stays in
            let works = works_on K V hash p (ap (λ (y : Setting). is_incremental y.mode) facts.setting_is ∙ mode) few (is_work p.stands its) w.memory m2 b its steps in
            with_this b.0 (ap (λ (o : Yielding (Node K V) Table). let pair : Copier × Yielding (Node K V) Table = (b.0, o) in pair) works.0)
            (works_keep same hash i its_setting mode w c seen its_map p m2 d blocks2 r P A G t into done first stays b.0 works.1 w2 seen2 (knows2 (goes_on works.0) (no_row_at_work b.0.stands works.1.1)) kept)
          where
            is_work : (stands : Point) → IsCopying stands → IsWork stands
            is_work at.Marks its = tt
            is_work (at.Probes word code table probe) its = tt
            is_work (at.Puts word code table probe) its = tt
            is_work _ its = absurd its

        asiding : IsAside p.stands → AllKept P A G c (λ t. ⊥) (λ t. ⊥) → Then
        asiding its kept =
            with_none (copier_aside same hash are.fits are.lawful i its_setting mode power w c seen its_map p facts m2 b steps d blocks2 r P A G its kept)

        promoting : p.stands ≡ at.Promotes → (t : ℕ) → RestsIn same hash w i its_setting c seen p t → Steps Took value_at w.memory (plan_at hash p at.Promotes) m2 b
            → AllKept P A G c (λ u. EndsAt c p at.Promotes u) (λ u. AbortsAt c p at.Promotes u) → Then
        promoting here t rests taken kept =
            let h = copier_promotes same hash i its_setting mode w c seen its_map p facts.setting_is m2 b taken d blocks2 r P A G t rests kept in
            with_this (standing p at.Announces) h.0 h.1

        counting : p.stands ≡ at.Counts → (t : ℕ) → CopiesInto same hash w i its_setting c seen p t → 0 < p.done → HasDoneIn same hash w i its_setting c seen t p.done
            → Steps Took value_at w.memory (plan_at hash p at.Counts) m2 b → AllKept P A G c (λ u. ⊥) (λ u. ⊥) → Then
        counting here t into some done taken kept =
            elim (copier_counts same hash i its_setting mode w c seen its_map p m2 b taken d blocks2 r P A G t into some done (first_stays (λ e. (let both = sym here ∙ e in cc both))) kept) as (λ _. Then) [
              | inl full ↦ with_this (record p { place = 0; end = 0; done = 0; stands = at.Promotes }) full.0 full.1
              | inr left ↦ with_none left.1
            ]

        fresh_kept : Then
        fresh_kept = by p.stands refl facts.point steps before
          where
            by : (stands : Point) → p.stands ≡ stands → CopyingFactsBlocking same hash w i its_setting c seen p stands → Steps Took value_at w.memory (plan_at hash p stands) m2 b
                → AllKept P A G c (λ t. EndsAt c p stands t) (λ t. AbortsAt c p stands t) → Then
            by at.Asks here point taken kept = asiding (subst IsAside (sym here) tt) kept
            by at.Sees here point taken kept = asiding (subst IsAside (sym here) tt) kept
            by at.Claims here point taken kept = asiding (subst IsAside (sym here) tt) kept
            by at.Replaces here point taken kept = asiding (subst IsAside (sym here) tt) kept
            by (at.Remakes making) here point taken kept = asiding (subst IsAside (sym here) tt) kept
            by (at.Succeeds table) here point taken kept = asiding (subst IsAside (sym here) tt) kept
            by at.Over here point taken kept = asiding (subst IsAside (sym here) tt) kept
            by (at.Refused fault) here point taken kept = asiding (subst IsAside (sym here) tt) kept
            by at.Marks here (t, into, done, range, inside, most) taken kept = working (subst IsCopying (sym here) tt) t into done kept
            by (at.Probes word code table probe) here (t, n, k, j, works, code_is, table_is, trial, tries) taken kept = working (subst IsCopying (sym here) tt) t works.copies works.has_done kept
            by (at.Puts word code table probe) here (t, n, k, j, works, code_is, table_is, trial, tries) taken kept = working (subst IsCopying (sym here) tt) t works.copies works.has_done kept
            by at.Counts here (t, into, some, done, none) taken kept = counting here t into some done taken kept
            by at.Promotes here (t, rests, counted) taken kept = promoting here t rests taken kept
            by at.Aborts here point taken kept =
                with_none (copier_aborts same hash are.fits are.lawful i its_setting mode power w c seen its_map p facts m2 b steps d blocks2 r P A G here kept)
            by at.Announces here point taken kept =
                with_none (copier_announces same hash are.fits are.lawful i its_setting mode power w c seen its_map p facts m2 b steps d blocks2 r P A G here kept)
            by (at.Retires settle rest) here point taken kept = absurd (row (subst IsRowOfCopier (sym here) tt))
            by at.Begins here point taken kept = absurd point
            by at.Follows here point taken kept = absurd point
            by (at.Covers word) here point taken kept = absurd point
            by (at.Passes word code table) here point taken kept = absurd point
            by (at.Grows word code making) here point taken kept = absurd point
            by (at.Tallies word fault) here point taken kept = absurd point
            by (at.Unmarks word fault) here point taken kept = absurd point
            by (at.Unclaims fault) here point taken kept = absurd point

      -- in a table that the root has left
      module _ (began : ℕ) (facts : SupersededCopierFacts same hash w i its_setting c seen began p) where
        late_may : May Can Took value_at w.memory (copier_plan hash p)
        late_may =
            may_late_copier same hash are.fits are.lawful i its_setting mode power began w c seen its_map (subst (λ (n : Bool). Moments n c) mode s.ground.moments) (claim_few calls c (s.few mode)) p facts row

        late_kept : Then
        late_kept = with_none (late_keeps same hash i its_setting mode w c seen its_map began p facts row late_may m2 b steps d blocks2 r P A G before)

      kept_then : Then
      kept_then = elim knows as (λ _. Then) [
        | inl fresh ↦ fresh_kept fresh
        | inr late ↦ late_kept late.0 late.1
      ]

      -- whether it has found each place claimed
      abbrev Full : Type 0
      Full = (made : p.target.turn < c.past) × (c.first < p.target.turn → (claim : ℕ) → word_at w.memory (at_word p.target CLAIM) ≡ Some claim → p.source.len ≤ claim → c.len c.first ≤ c.claim p.target.turn)

      none_left_spent : Full → (claim : ℕ) → word_at w.memory (at_word p.target CLAIM) ≡ Some claim → p.source.len ≤ claim → SpentAt d (none_left p) (none_left p).stands
      none_left_spent full claim there most = by p.whole
        where
          by : (n : Bool) → SpentAt d (if n then record p { spent = true; stands = at.Asks } else standing p at.Over) (if n then record p { spent = true; stands = at.Asks } else standing p at.Over).stands
          by true = λ spent behind made. claimed_still p.target.turn full.0 (λ ahead. full.1 ahead claim there most) behind
          by false = tt

      -- as it looks at the claim of its target
      looks_full : (t u : ℕ) → IsTable c seen p.target t → IsTable c seen p.source u → (c.first < t → u ≡ c.first) → Full
      looks_full t u target source root = ((let made = target.made in omega (arith, made, turn)), λ ahead claim there most. (let one = root (subst (λ (n : ℕ). c.first < n) turn ahead) in claims one claim there most))
        where
          turn : p.target.turn ≡ t
          turn = ap (λ (y : Table). y.turn) target.is

          claim_here : word_at w.memory (at_word p.target CLAIM) ≡ Some (c.claim t)
          claim_here =
              ap (word_at w.memory) (word_stands hash w.memory c seen its_setting.root its_map.map.shows p.target t target CLAIM)
              ∙ (its_map.map.shows.tables t target.made target.known).claim

          claims : u ≡ c.first → (claim : ℕ) → word_at w.memory (at_word p.target CLAIM) ≡ Some claim → p.source.len ≤ claim → c.len c.first ≤ c.claim p.target.turn
          claims one claim there most =
              let len : p.source.len ≡ c.len u = len_is hash w.memory c seen its_setting.root its_map.map.shows p.source u source in
              let length : c.len u ≡ c.len c.first = ap c.len one in
              let same_claim : claim ≡ c.claim t = cc (there, claim_here) in
              let its : c.claim p.target.turn ≡ c.claim t = ap c.claim turn in
              omega (arith, len, length, same_claim, its, most)

      sees_full : (p.stands ≡ at.Sees) ⊎ (p.stands ≡ at.Claims) → Full
      sees_full here = elim knows as (λ _. Full) [
        | inl fresh ↦ of_fresh here fresh
        | inr late ↦ of_late here late.0 late.1
      ]
        where
          of_rests : (t : ℕ) → RestsIn same hash w i its_setting c seen p t → Full
          of_rests t rests = looks_full t c.first rests.0.2 rests.0.0 (λ ahead. refl)

          of_fresh : (p.stands ≡ at.Sees) ⊎ (p.stands ≡ at.Claims) → CopierFactsBlocking same hash w i its_setting c seen p → Full
          of_fresh (inl e) facts = let f = subst (λ (q : Point). CopyingFactsBlocking same hash w i its_setting c seen p q) e facts.point in of_rests f.0 f.1
          of_fresh (inr e) facts = let f = subst (λ (q : Point). CopyingFactsBlocking same hash w i its_setting c seen p q) e facts.point in of_rests f.0 f.1

          of_copies : (began u t : ℕ) → CopiesSuperseded same hash w i its_setting c seen began p u t → Full
          of_copies began u t late = looks_full t u late.target late.source (λ ahead. absurd (let over = late.over in omega (arith, over, ahead)))

          of_late : (p.stands ≡ at.Sees) ⊎ (p.stands ≡ at.Claims) → (began : ℕ) → SupersededCopierFacts same hash w i its_setting c seen began p → Full
          of_late (inl e) began facts = let f = subst (λ (q : Point). SupersededCopying same hash w i its_setting c seen began p q) e facts.point in of_copies began f.0 f.1 f.2
          of_late (inr e) began facts = let f = subst (λ (q : Point). SupersededCopying same hash w i its_setting c seen began p q) e facts.point in of_copies began f.0 f.1 f.2

      its_mode : is_incremental p.setting.mode ≡ false
      its_mode = elim knows as (λ _. is_incremental p.setting.mode ≡ false) [
        | inl fresh ↦ ap (λ (y : Setting). is_incremental y.mode) fresh.setting_is ∙ mode
        | inr late ↦ ap (λ (y : Setting). is_incremental y.mode) late.1.setting_is ∙ mode
      ]

      blind_knows : CopierKnows w i its_setting c seen p p.stands
      blind_knows = elim knows as (λ _. CopierKnows w i its_setting c seen p p.stands) [
        | inl fresh ↦ fresh_knows same hash w i its_setting c seen its_map p p.stands fresh.point row
        | inr late ↦ late_knows same hash w i its_setting c seen its_map p late.0 p.stands late.1.point row
      ]

      spent_before : SpentAt c p p.stands
      spent_before = all.spent i x has p within

      unspent : IsUnspent b.0 → SpentAt d b.0 b.0.stands
      unspent none = unspent_at d b.0 b.0.stands none

      spent_then : SpentAt d b.0 b.0.stands
      spent_then = by p.stands refl spent_before
        where
          asked : p.stands ≡ at.Asks → (b.0 ≡ p) ⊎ IsUnspent b.0 → SpentAt d b.0 b.0.stands
          asked here (inl is) =
              subst (λ (q : Copier). SpentAt d q q.stands) (sym is)
              (still_spent p p.stands (λ e. (let asks_it = asks_so V same hash asks setting slot w c blocks sights calls s mode i p here x has within in
              let turn : p.target.turn ≡ asks_it.1 = ap (λ (y : Table). y.turn) asks_it.3.is in let made = asks_it.3.made in omega (arith, turn, made))) spent_before)
          asked here (inr none) = unspent none

          seen_claim : (p.stands ≡ at.Sees) ⊎ (p.stands ≡ at.Claims)
              → IsUnspent b.0 ⊎ ((claim : ℕ) × (word_at w.memory (at_word p.target CLAIM) ≡ Some claim) × (p.source.len ≤ claim) × (b.0 ≡ none_left p)) → SpentAt d b.0 b.0.stands
          seen_claim here (inl none) = unspent none
          seen_claim here (inr (claim, there, most, is)) = subst (λ (q : Copier). SpentAt d q q.stands) (sym is) (none_left_spent (sees_full here) claim there most)

          blindly : IsBlind p.stands → SpentAt d b.0 b.0.stands
          blindly blind = unspent (blind_unspent K V hash p w i its_setting c seen its_mode w.memory m2 b blind_knows blind spent_before steps)

          by : (stands : Point) → p.stands ≡ stands → SpentAt c p stands → SpentAt d b.0 b.0.stands
          by at.Asks here old = asked here (asks_on K V hash p w i its_setting c seen its_mode w.memory m2 b here steps)
          by at.Sees here old = seen_claim (inl here) (sees_claim K V hash p w i its_setting c seen its_mode w.memory m2 b old here steps)
          by at.Claims here old = seen_claim (inr here) (claims_claim K V hash p w i its_setting c seen its_mode w.memory m2 b old here steps)
          by at.Begins here old = blindly (subst IsBlind (sym here) tt)
          by at.Follows here old = blindly (subst IsBlind (sym here) tt)
          by at.Marks here old = blindly (subst IsBlind (sym here) tt)
          by (at.Probes word code table probe) here old = blindly (subst IsBlind (sym here) tt)
          by (at.Puts word code table probe) here old = blindly (subst IsBlind (sym here) tt)
          by (at.Covers word) here old = blindly (subst IsBlind (sym here) tt)
          by (at.Passes word code table) here old = blindly (subst IsBlind (sym here) tt)
          by (at.Grows word code making) here old = blindly (subst IsBlind (sym here) tt)
          by at.Aborts here old = blindly (subst IsBlind (sym here) tt)
          by at.Replaces here old = blindly (subst IsBlind (sym here) tt)
          by (at.Remakes making) here old = blindly (subst IsBlind (sym here) tt)
          by at.Counts here old = blindly (subst IsBlind (sym here) tt)
          by (at.Tallies word fault) here old = blindly (subst IsBlind (sym here) tt)
          by (at.Unmarks word fault) here old = blindly (subst IsBlind (sym here) tt)
          by (at.Unclaims fault) here old = blindly (subst IsBlind (sym here) tt)
          by at.Promotes here old = blindly (subst IsBlind (sym here) tt)
          by at.Announces here old = blindly (subst IsBlind (sym here) tt)
          by (at.Succeeds table) here old = blindly (subst IsBlind (sym here) tt)
          by (at.Retires settle rest) here old = blindly (subst IsBlind (sym here) tt)
          by at.Over here old = blindly (subst IsBlind (sym here) tt)
          by (at.Refused fault) here old = blindly (subst IsBlind (sym here) tt)

      pub copier_keeps : HaveEndsBlocking d (with_at calls i next)
      copier_keeps = with_own calls i d next kept_then (own_spent comes) others_spent
        where
          own_spent : ((b.1 ≡ Goes → ⊥) × (copier_then next ≡ None)) ⊎ (copier_then next ≡ Some b.0) → OwnSpent d (copier_then next)
          own_spent (inl none) = subst (λ (o : Option Copier). OwnSpent d o) (sym none.1) tt
          own_spent (inr is) = subst (λ (o : Option Copier). OwnSpent d o) (sym is) spent_then
