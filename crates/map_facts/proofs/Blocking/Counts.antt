-- In blocking mode, a copier counts what it has done, or says that a pair has no place in its target.
use Rattle.std.specs.Prelude.{Some}
use Rattle.std.proofs.Common.{◌≡◌, ℕ, ◌+◌, ◌%◌, ◌^◌, ◌<◌, ◌≤◌, ◌==◌, Bool, true, false, cond, eqb, ◌⊎◌, inl, inr, refl, ap, sym, subst, ◌∙◌, arith}
use Rattle.std.proofs.lemmas.Bool.{cases_eq, eq-eqb, ne_eqb, eqb-true, eqb-false}
use Rattle.map_rule.specs.Given.SeizeWordsMem.{Mem, Took, value_at, word_at, with_word}
use Rattle.map_rule.specs.Given.SeizeWordsOp.{Add, Store, Found, Stored}
use Rattle.map_rule.specs.Given.SeizeWordsPlan.{Steps}
use Rattle.map_rule.proofs.Given.SeizeWordsOneOwner.Operations.{added, stored}
use Rattle.map_rule.proofs.Given.SeizeWordsPlans.{ends_if}
use Rattle.papaya_raw.specs.Given.SeizeWorld.{World}
use Rattle.papaya_raw.specs.Given.TablesChunks.{is_incremental}
use Rattle.papaya_raw.specs.Given.TablesDeclared.node.Node.{Node}
use Rattle.map_rule.specs.Given.ResizeDeclared.yielding.Yielding.{Yielding}
use Rattle.map_rule.specs.Given.ResizeDeclared.yielding.Yielding.TheVariants.{Goes}
use Rattle.papaya_raw.specs.Given.TablesDeclared.setting.Setting.{Setting}
use Rattle.papaya_raw.specs.Given.TablesDeclared.status.TheConstants.Status.{ABORTED}
use Rattle.papaya_raw.specs.Given.TablesDeclared.table.Table.{Table}
use Rattle.papaya_raw.specs.Given.TablesDeclared.table_words.TheConstants.{COPIED, STATUS}
use Rattle.map_rule.specs.Given.ResizeDeclared.copier.Copier.{Copier}
use Rattle.map_rule.specs.Given.ResizeDeclared.copier.Copying.TheVariants as at
use Rattle.papaya_raw.specs.Given.TablesTablePlaces.{at_word}
use Rattle.map_rule.specs.Given.ResizeCopierStates.{standing, behind}
use Rattle.map_rule.specs.Given.ResizeCopierCounts.{counts, counted}
use Rattle.map_rule.specs.Given.ResizeCopierFurther.{aborts, to}
use Rattle.map_rule.specs.Chart.{Share, Claimed, Counted, Chart}
use Rattle.map_rule.specs.Rule.{IsLawful}
use Rattle.map_rule.proofs.Moves.Counts.{counted_behind}
use Rattle.map_rule.specs.Moves.{counted_to, Counts, Aborts, is_of_caller, with_counted, after}
use Rattle.map_rule.specs.Words.{Blocks, Represents}
use Rattle.map_rule.specs.Maps.{spot_of}
use Rattle.map_rule.specs.InWorld.{IsMapIn}
use Rattle.map_facts.specs.FactsCopiesBlocking.{HasNoShares, CopiesInto, HasDoneIn, ClaimsNoneIn, RestsIn, GaveUp, CopyingFactsBlocking}
use Rattle.map_facts.specs.FactsAloneBlocking.{AloneBlocking, AllAbortedBut}
use Rattle.map_facts.proofs.Steps.AloneCharts.{aborted_counted, uncounted_counted, aborted_told}
use Rattle.map_facts.proofs.Copiers.CopierWent.{CopierCame}
use Rattle.map_facts.proofs.Copiers.CopierMoves.{copier_wrote, copies_again}
use Rattle.map_rule.proofs.Shares.CopiersShares.{done_fits}
use Rattle.map_rule.proofs.Words.OwnWords.{own_at_word}
use Rattle.map_rule.proofs.Shares.SharesBlocking.{counted_no_more}
use Rattle.map_rule.proofs.World.Hands.{Hands}
use Rattle.map_facts.proofs.Blocking.Targets.{copied_is, copied_shows, status_is, status_shows}
use Rattle.map_rule.proofs.Words.TablesSeen.{len_is, turn_is}
use Rattle.map_rule.proofs.Moves.Totals.{total_full, total_with_counted}
use Rattle.map_rule.proofs.Given.General.{some_is as is_some_of}

module _ {K V : Type 0} (same : K → K → Bool) (hash : K → ℕ) (caller : ℕ) (setting : Setting) (w : World (Node K V)) (c : Chart K) (blocks : Blocks)
    (map : IsMapIn same hash setting w c blocks) (lawful : IsLawful same (spot_of hash)) (blocking : is_incremental setting.mode ≡ false) (p : Copier) (setting_is : p.setting ≡ setting) where
  -- hands are those before, where neither places nor tables nor pairs change
  same_hands : (share : ℕ → ℕ → Share) (copied status : ℕ → ℕ) → Hands same hash setting w (record c { share = share; copied = copied; status = status }) blocks
  same_hands share copied status = record { tables = map.tables; pairs = map.pairs; named = map.named; tables_out = map.tables_out; pairs_out = map.pairs_out }

  module _ (t : ℕ) (copies : CopiesInto same hash w caller setting c blocks p t) (some : 0 < p.done) (done : HasDoneIn same hash w caller setting c blocks t p.done)
      (none : ClaimsNoneIn same hash w caller setting c blocks t) where
    copied_here : word_at w.memory (at_word p.target COPIED) ≡ Some (c.copied t)
    copied_here = copied_is same hash setting w c blocks map p t copies.2

    length : p.source.len ≡ c.len c.first
    length = len_is hash w.memory c blocks setting.root map.map.shows p.source c.first copies.0

    -- all that was counted, and now is
    few : c.copied t + p.done ≤ c.len c.first
    few =
        let counts = map.map.rule.common.counts t copies.1 copies.2.made in
        let most = done_fits caller (c.share t) (c.len c.first) in
        omega (arith, counts, done.0, most)

    fits : (c.copied t + p.done) % 2 ^ 64 ≡ c.copied t + p.done
    fits = let most = (map.map.shows.sized c.first copies.0.made).most in omega (arith, few, most)

    abbrev counted_chart : Chart K
    counted_chart = after (spot_of hash) false (Counts caller t p.done) c

    abbrev counted_memory : Mem (Node K V)
    counted_memory = with_word w.memory (at_word p.target COPIED) ((c.copied t + p.done) % 2 ^ 64)

    counted_shows : Represents hash counted_memory counted_chart blocks setting.root
    counted_shows =
        copied_shows same hash setting w c blocks map p t copies.2 ((c.copied t + p.done) % 2 ^ 64) (counted_to c t p.done) (counted_behind c t p.done copies.1 ∙ sym fits) counted_chart.share

    no_shares : HasNoShares same hash (record w { memory = counted_memory }) caller setting counted_chart blocks
    no_shares u j late =
        elim (cases_eq u t) as (λ _. is_of_caller caller (cond (eqb u t) (with_counted caller (c.share u j)) (c.share u j)) ≡ false) [
          | inl e ↦ rw (eq-eqb u t e) (counted_no_more caller (c.share u j) (λ mine. none j (subst (λ (x : ℕ). c.share x j ≡ Claimed caller) e mine)))
          | inr ne ↦ rw (ne_eqb u t ne) (done.1 u j late ne)
        ]

    all_counted : c.copied t + p.done ≡ c.len c.first → (j : ℕ) → j < c.len c.first → counted_chart.share t j ≡ Counted
    all_counted full j l =
        let counts = map.map.rule.common.counts t copies.1 copies.2.made in
        let sum = total_with_counted caller (c.share t) (c.len c.first) in
        rw (eq-eqb t t refl) (total_full (λ i. with_counted caller (c.share t i)) (c.len c.first) (omega (arith, counts, done.0, sum, full)) j l)

    rests : RestsIn same hash (record w { memory = counted_memory }) caller setting counted_chart blocks (record p { done = 0 }) t
    rests = (copies_again same hash caller setting w (record w { memory = counted_memory }) c counted_chart blocks refl refl refl refl p t copies, refl, no_shares)

    below : (c.copied t + p.done ≡ c.len c.first → ⊥) → c.copied t + p.done < c.len c.first
    below other = omega (arith, few, other)

    p_blocking : is_incremental p.setting.mode ≡ false
    p_blocking = ap (λ (x : Setting). is_incremental x.mode) setting_is ∙ blocking

    pub went_count : (m2 : Mem (Node K V)) (end : Copier × Yielding (Node K V) Table) → Steps Took value_at w.memory (counts p) m2 end
        → CopierCame same hash caller setting w c blocks (AloneBlocking c p at.Counts) m2 end
    went_count m2 end s =
        let add = added w.memory (counted p) (at_word p.target COPIED) p.done m2 end s in
        by_count add.0 (cc (add.1, copied_here)) add.2
        (ends_if (value_at (with_word w.memory (at_word p.target COPIED) ((add.0 + p.done) % 2 ^ 64))) ((add.0 + p.done) % 2 ^ 64 == p.source.len) _ _ end add.3)
      where
        behind_is : behind (record p { done = 0 }) ≡ record p { place = 0; end = 0; done = 0; spent = is_incremental p.setting.mode; stands = at.Asks }
        behind_is = rw copies.3 refl

        by_count : (count : ℕ) → count ≡ c.copied t → m2 ≡ with_word w.memory (at_word p.target COPIED) ((count + p.done) % 2 ^ 64)
            → ((((count + p.done) % 2 ^ 64 == p.source.len) ≡ true) × (end ≡ (record p { place = 0; end = 0; done = 0; stands = at.Promotes }, Goes)))
            ⊎ ((((count + p.done) % 2 ^ 64 == p.source.len) ≡ false) × (end ≡ (behind (record p { done = 0 }), Goes)))
            → CopierCame same hash caller setting w c blocks (AloneBlocking c p at.Counts) m2 end
        by_count count e m2_is ends =
            elim ends as (λ _. CopierCame same hash caller setting w c blocks (AloneBlocking c p at.Counts) m2 end) [
              | inl full ↦ wrote (record p { place = 0; end = 0; done = 0; stands = at.Promotes }) full.1 setting_is
                  (t, rests, all_counted (let sum = eqb-true ((count + p.done) % 2 ^ 64) p.source.len full.0 in omega (arith, sum, fits, length, e))) (λ a. aborted_counted c (spot_of hash) caller t p.done a.0)
              | inr rest ↦ wrote (record p { place = 0; end = 0; done = 0; spent = is_incremental p.setting.mode; stands = at.Asks })
                  (rest.1 ∙ ap (λ (q : Copier). (q, Goes)) behind_is) setting_is (t, rests)
                  (λ a. (
                    aborted_counted c (spot_of hash) caller t p.done a.0,
                    uncounted_counted c t p.done a.1 (let more = eqb-false ((count + p.done) % 2 ^ 64) p.source.len rest.0 in below (λ sum. more (omega (arith, sum, fits, length, e)))),
                    λ spent. absurd (cc (spent, p_blocking)),
                  ))
            ]
          where
            wrote : (q : Copier) → end ≡ (q, Goes) → q.setting ≡ setting
                → CopyingFactsBlocking same hash (record w { memory = counted_memory }) caller setting counted_chart blocks q q.stands
                → (AloneBlocking c p at.Counts → AloneBlocking counted_chart q q.stands) → CopierCame same hash caller setting w c blocks (AloneBlocking c p at.Counts) m2 end
            wrote q ends q_setting point alone =
                copier_wrote same hash caller setting w c blocks map lawful blocking (Counts caller t p.done) (copies.2.made, λ l. done.0) (AloneBlocking c p at.Counts) (λ i other is. other (sym is)) copies.2.known
                (Add (at_word p.target COPIED) p.done) (Found (c.copied t)) (at_word p.target COPIED) ((c.copied t + p.done) % 2 ^ 64)
                (own_at_word same hash setting w c blocks map caller p.target t COPIED copies.2 (omega arith)) (is_some_of _ _ copied_here)
                m2 copied_here (rw (sym e) m2_is) refl refl counted_shows (same_hands counted_chart.share counted_chart.copied c.status) refl end q ends q_setting point alone

  module _ (t : ℕ) (gave : GaveUp same hash w caller setting c blocks p t) where
    abbrev aborted_chart : Chart K
    aborted_chart = after (spot_of hash) false (Aborts t) c

    abbrev aborted_memory : Mem (Node K V)
    aborted_memory = with_word w.memory (at_word p.target STATUS) ABORTED

    target_turn : p.target.turn ≡ t
    target_turn = turn_is hash w.memory c blocks setting.root map.map.shows p.target t gave.0.0.2

    pub went_abort : (m2 : Mem (Node K V)) (end : Copier × Yielding (Node K V) Table) → Steps Took value_at w.memory (aborts p) m2 end
        → CopierCame same hash caller setting w c blocks (AloneBlocking c p at.Aborts) m2 end
    went_abort m2 end s =
        let store = stored w.memory (λ out. to (standing p at.Replaces)) (at_word p.target STATUS) ABORTED m2 end s in
        copier_wrote same hash caller setting w c blocks map lawful blocking (Aborts t) (refl, gave.0.0.1, gave.0.0.2.made, gave.1, gave.2, gave.3) (AloneBlocking c p at.Aborts) (λ i other is. is) gave.0.0.2.known
        (Store (at_word p.target STATUS) ABORTED) Stored (at_word p.target STATUS) ABORTED
        (own_at_word same hash setting w c blocks map caller p.target t STATUS gave.0.0.2 (omega arith)) (is_some_of _ _ (status_is same hash setting w c blocks map p t gave.0.0.2))
        m2 tt store.0 refl refl (status_shows same hash setting w c blocks map p t gave.0.0.2 ABORTED) (same_hands c.share c.copied aborted_chart.status) refl end (standing p at.Replaces) store.1 setting_is (
          t,
          (copies_again same hash caller setting w (record w { memory = aborted_memory }) c aborted_chart blocks refl refl refl refl p t gave.0.0, gave.0.1, gave.0.2),
          rw (eq-eqb t t refl) refl,
        )
        (λ a. (aborted_told c t (subst (λ (u : ℕ). AllAbortedBut c u) target_turn a.0), a.1, a.2))
