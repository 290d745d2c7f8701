-- In blocking mode, a copier claims places of the root.
use Rattle.std.specs.Prelude.{Some, nat_lt}
use Rattle.std.proofs.Common.{◌≡◌, ◌≢◌, ℕ, ◌+◌, ◌-◌, ◌%◌, ◌^◌, ◌<◌, ◌≤◌, Bool, true, false, min, ◌⊎◌, inl, inr, refl, ap, sym, subst, ◌∙◌, arith}
use Rattle.std.proofs.lemmas.Bool.Decides.{nat_tests}
use Rattle.std.proofs.lemmas.Bool.{cases_eq, eq-eqb, ne_eqb, ltb-true, ltb-false}
use Rattle.map_rule.specs.Given.SeizeWordsMem.{Mem, Took, value_at, word_at, with_word}
use Rattle.map_rule.specs.Given.SeizeWordsOp.{Add, Found}
use Rattle.map_rule.specs.Given.SeizeWordsPlan.{Steps}
use Rattle.map_rule.proofs.Given.SeizeWordsOneOwner.Operations.{added}
use Rattle.map_rule.proofs.Given.SeizeWordsPlans.{ends_if}
use Rattle.papaya_raw.specs.Given.SeizeWorld.{World}
use Rattle.papaya_raw.specs.Given.TablesChunks.{is_incremental}
use Rattle.papaya_raw.specs.Given.TablesDeclared.node.Node.{Node}
use Rattle.map_rule.specs.Given.ResizeDeclared.yielding.Yielding.{Yielding}
use Rattle.map_rule.specs.Given.ResizeDeclared.yielding.Yielding.TheVariants.{Goes}
use Rattle.papaya_raw.specs.Given.TablesDeclared.setting.Setting.{Setting}
use Rattle.papaya_raw.specs.Given.TablesDeclared.table.Table.{Table}
use Rattle.papaya_raw.specs.Given.TablesDeclared.table_words.TheConstants.{CLAIM}
use Rattle.map_rule.specs.Given.ResizeDeclared.copier.Copier.{Copier}
use Rattle.map_rule.specs.Given.ResizeDeclared.copier.Copying.TheVariants as at
use Rattle.papaya_raw.specs.Given.TablesTablePlaces.{at_word}
use Rattle.map_rule.specs.Given.ResizeCopierStates.{none_left}
use Rattle.map_rule.specs.Given.ResizeCopierClaims.{chunk, range_claimed, claims, claimed}
use Rattle.map_rule.specs.Chart.{Chart, put}
use Rattle.map_rule.specs.Rule.{IsLawful}
use Rattle.map_rule.specs.Moves.{Claims, is_of_caller, is_done_by, after}
use Rattle.map_rule.specs.Words.{Blocks, Represents}
use Rattle.map_rule.specs.Maps.{spot_of}
use Rattle.map_rule.specs.InWorld.{IsMapIn}
use Rattle.map_facts.specs.FactsCopiesBlocking.{HasNoShares, CopiesInto, HasDoneIn, ClaimsRange, RestsIn, CopyingFactsBlocking}
use Rattle.map_facts.specs.FactsAloneBlocking.{AloneBlocking}
use Rattle.map_facts.proofs.Steps.AloneCharts.{aborted_claimed}
use Rattle.map_facts.proofs.Copiers.CopierWent.{CopierCame}
use Rattle.map_facts.proofs.Copiers.CopierMoves.{copier_wrote, copies_again}
use Rattle.map_rule.proofs.Shares.SharesBlocking.{claimed_share, claimed_not_done, claimed_within, claimed_alone, claimed_past}
use Rattle.map_rule.proofs.World.Hands.{Hands}
use Rattle.map_facts.proofs.Blocking.Targets.{chunk_few, chunk_some, claim_is, claim_shows}
use Rattle.map_rule.proofs.Words.TablesSeen.{len_is, turn_is}
use Rattle.map_rule.proofs.Moves.Totals.{total_none}
use Rattle.map_rule.proofs.Words.OwnWords.{own_at_word}
use Rattle.map_rule.proofs.Given.General.{some_is as is_some_of}

-- a chunk is no longer than its table, and not empty
module _ {K V : Type 0} (same : K → K → Bool) (hash : K → ℕ) (caller : ℕ) (setting : Setting) (w : World (Node K V)) (c : Chart K) (blocks : Blocks)
    (map : IsMapIn same hash setting w c blocks) (lawful : IsLawful same (spot_of hash)) (blocking : is_incremental setting.mode ≡ false) (p : Copier) (setting_is : p.setting ≡ setting)
    (t : ℕ) (rests : RestsIn same hash w caller setting c blocks p t) (small : c.claim t < 2 ^ 63) where
  claim_here : word_at w.memory (at_word p.target CLAIM) ≡ Some (c.claim t)
  claim_here = claim_is same hash setting w c blocks map p t rests.0.2

  length : p.source.len ≡ c.len c.first
  length = len_is hash w.memory c blocks setting.root map.map.shows p.source c.first rests.0.0

  most : c.len c.first ≤ 2 ^ 48
  most = (map.map.shows.sized c.first rests.0.0.made).most

  fits : (c.claim t + chunk p) % 2 ^ 64 ≡ c.claim t + chunk p
  fits = let few = chunk_few p.setting.mode p.source.len in omega (arith, few, length, most, small)

  abbrev claimed_chart : Chart K
  claimed_chart = after (spot_of hash) false (Claims caller t (chunk p)) c

  abbrev claimed_memory : Mem (Node K V)
  claimed_memory = with_word w.memory (at_word p.target CLAIM) ((c.claim t + chunk p) % 2 ^ 64)

  claimed_shows : Represents hash claimed_memory claimed_chart blocks setting.root
  claimed_shows = claim_shows same hash setting w c blocks map p t rests.0.2 ((c.claim t + chunk p) % 2 ^ 64) (c.claim t + chunk p) (sym fits) claimed_chart.share

  hands : Hands same hash setting w claimed_chart blocks
  hands = record { tables = map.tables; pairs = map.pairs; named = map.named; tables_out = map.tables_out; pairs_out = map.pairs_out }

  -- the shares in the table are those before, and those that are claimed
  here : (j : ℕ) → claimed_chart.share t j ≡ claimed_share caller (c.claim t) (chunk p) (c.len c.first) j (c.share t j)
  here j = rw (eq-eqb t t refl, behind) refl
    where
      behind : nat_lt c.first t ≡ true
      behind = grind (arith, nat_tests, rests.0.1)

  elsewhere : (u j : ℕ) → u ≢ t → claimed_chart.share u j ≡ c.share u j
  elsewhere u j ne = rw (ne_eqb u t ne) refl

  copies : CopiesInto same hash (record w { memory = claimed_memory }) caller setting claimed_chart blocks p t
  copies = copies_again same hash caller setting w (record w { memory = claimed_memory }) c claimed_chart blocks refl refl refl refl p t rests.0

  done : HasDoneIn same hash (record w { memory = claimed_memory }) caller setting claimed_chart blocks t p.done
  done = (
    rests.1 ∙ sym (total_none (is_done_by caller) (claimed_chart.share t) (c.len c.first)
        (λ j l. ap (is_done_by caller) (here j) ∙ claimed_not_done caller (c.claim t) (chunk p) (c.len c.first) j (c.share t j) (rests.2 t j rests.0.1))),
    λ u j late ne. ap (is_of_caller caller) (elsewhere u j ne) ∙ rests.2 u j late,
  )

  range : ClaimsRange same hash (record w { memory = claimed_memory }) caller setting claimed_chart blocks t (c.claim t) (c.claim t + min (chunk p) (p.source.len - c.claim t))
  range = (
    λ j low high. here j ∙ claimed_within caller (c.claim t) (chunk p) (c.len c.first) j (c.share t j) low
        (subst (λ (len : ℕ). j < c.claim t + min (chunk p) (len - c.claim t)) length high),
    λ j mine. subst (λ (len : ℕ). (c.claim t ≤ j) × (j < c.claim t + min (chunk p) (len - c.claim t))) (sym length)
        (claimed_alone caller (c.claim t) (chunk p) (c.len c.first) j (c.share t j) (rests.2 t j rests.0.1) (sym (here j) ∙ mine)),
  )

  no_shares : c.len c.first ≤ c.claim t → HasNoShares same hash (record w { memory = claimed_memory }) caller setting claimed_chart blocks
  no_shares over u j late =
      elim (cases_eq u t) as (λ _. is_of_caller caller (claimed_chart.share u j) ≡ false) [
        | inl e ↦ ap (λ (x : ℕ). is_of_caller caller (claimed_chart.share x j)) e
            ∙ ap (is_of_caller caller) (here j ∙ claimed_past caller (c.claim t) (chunk p) (c.len c.first) j (c.share t j) over) ∙ rests.2 t j rests.0.1
        | inr ne ↦ ap (is_of_caller caller) (elsewhere u j ne) ∙ rests.2 u j late
      ]

  target_turn : p.target.turn ≡ t
  target_turn = turn_is hash w.memory c blocks setting.root map.map.shows p.target t rests.0.2

  all_claimed : (u : ℕ) → u ≡ t → c.len c.first ≤ c.claim t → c.len c.first ≤ put c.claim t (c.claim t + chunk p) u
  all_claimed u is over = rw (is, eq-eqb t t refl) (omega (arith, over))

  pub went_claim : (m2 : Mem (Node K V)) (end : Copier × Yielding (Node K V) Table) → Steps Took value_at w.memory (claims p) m2 end
      → CopierCame same hash caller setting w c blocks (AloneBlocking c p at.Claims) m2 end
  went_claim m2 end s =
      let add = added w.memory (claimed p) (at_word p.target CLAIM) (chunk p) m2 end s in
      by_claim add.0 (cc (add.1, claim_here)) add.2
      (ends_if (value_at (with_word w.memory (at_word p.target CLAIM) ((add.0 + chunk p) % 2 ^ 64))) (nat_lt add.0 p.source.len) _ _ end add.3)
    where
      none_left_is : none_left p ≡ record p { spent = true; stands = at.Asks }
      none_left_is = rw rests.0.3 refl

      by_claim : (claim : ℕ) → claim ≡ c.claim t → m2 ≡ with_word w.memory (at_word p.target CLAIM) ((claim + chunk p) % 2 ^ 64)
          → ((nat_lt claim p.source.len ≡ true) × (end ≡ (range_claimed p claim, Goes))) ⊎ ((nat_lt claim p.source.len ≡ false) × (end ≡ (none_left p, Goes)))
          → CopierCame same hash caller setting w c blocks (AloneBlocking c p at.Claims) m2 end
      by_claim claim e m2_is ends =
          elim ends as (λ _. CopierCame same hash caller setting w c blocks (AloneBlocking c p at.Claims) m2 end) [
            | inl left ↦ (let below = ltb-true claim p.source.len left.0 in
                let some = chunk_some p.setting.mode p.source.len (ap (λ (x : Setting). is_incremental x.mode) setting_is ∙ blocking) (omega (arith, below)) in
                wrote (range_claimed p (c.claim t)) (left.1 ∙ ap (λ (x : ℕ). (range_claimed p x, Goes)) e) setting_is
                (t, copies, done, range, omega (arith, below, e, some), omega (arith, below, length, e))
                (λ a. (aborted_claimed c (spot_of hash) caller t (chunk p) a.0, a.1, a.2)))
            | inr over ↦ (let past = ltb-false claim p.source.len over.0 in
                wrote (record p { spent = true; stands = at.Asks }) (over.1 ∙ ap (λ (q : Copier). (q, Goes)) none_left_is) setting_is
                (t, (copies, rests.1, no_shares (omega (arith, past, length, e))))
                (λ a. (aborted_claimed c (spot_of hash) caller t (chunk p) a.0, a.1, λ spent. all_claimed p.target.turn target_turn (omega (arith, past, length, e)))))
          ]
        where
          wrote : (q : Copier) → end ≡ (q, Goes) → q.setting ≡ setting
              → CopyingFactsBlocking same hash (record w { memory = claimed_memory }) caller setting claimed_chart blocks q q.stands
              → (AloneBlocking c p at.Claims → AloneBlocking claimed_chart q q.stands)
              → CopierCame same hash caller setting w c blocks (AloneBlocking c p at.Claims) m2 end
          wrote q ends q_setting point alone =
              copier_wrote same hash caller setting w c blocks map lawful blocking (Claims caller t (chunk p)) (refl, rests.0.2.made) (AloneBlocking c p at.Claims)
              (λ i other is. other (sym is)) rests.0.2.known
              (Add (at_word p.target CLAIM) (chunk p)) (Found (c.claim t)) (at_word p.target CLAIM) ((c.claim t + chunk p) % 2 ^ 64)
              (own_at_word same hash setting w c blocks map caller p.target t CLAIM rests.0.2 (omega arith)) (is_some_of _ _ claim_here)
              m2 claim_here (rw (sym e) m2_is) refl refl claimed_shows hands refl end q ends q_setting point alone
