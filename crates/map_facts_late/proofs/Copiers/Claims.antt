-- A copier claims places of its source, which the root has left: if there were some, its target was aborted.
use Rattle.std.specs.Prelude.{Some, nat_lt}
use Rattle.std.proofs.Common.{◌≡◌, ◌≢◌, ℕ, ◌+◌, ◌%◌, ◌^◌, ◌<◌, ◌≤◌, Bool, true, false, ◌⊎◌, inl, inr, refl, ap, sym, subst, ◌∙◌, arith}
use Rattle.std.proofs.lemmas.Bool.{ne_eqb, ltb-true}
use Rattle.map_facts.specs.Given.SeizeWordsMem.{Mem, Took, value_at, word_at, with_word}
use Rattle.map_facts.specs.Given.SeizeWordsOp.{Add, Found}
use Rattle.map_facts.specs.Given.SeizeWordsPlan.{Steps}
use Rattle.map_facts.proofs.Given.SeizeWordsOneOwner.Operations.{added}
use Rattle.map_facts.proofs.Given.SeizeWordsPlans.{ends_if}
use Rattle.map_facts.specs.Given.SeizeWorld.{World}
use Rattle.map_facts.specs.Given.TablesChunks.{is_incremental}
use Rattle.map_facts.specs.Given.TablesTablePlaces.{at_word}
use Rattle.map_facts.specs.Given.TablesDeclared.node.Node.{Node}
use Rattle.map_facts.specs.Given.TablesDeclared.setting.Setting.{Setting}
use Rattle.map_facts.specs.Given.TablesDeclared.status.TheConstants.Status.{ABORTED}
use Rattle.map_facts.specs.Given.TablesDeclared.table.Table.{Table}
use Rattle.map_facts.specs.Given.TablesDeclared.table_words.TheConstants.{CLAIM}
use Rattle.map_facts.specs.Given.ResizeCopierClaims.{chunk, range_claimed, claims, claimed}
use Rattle.map_facts.specs.Given.ResizeCopierStates.{none_left}
use Rattle.map_facts.specs.Given.ResizeDeclared.copier.Copier.{Copier}
use Rattle.map_facts.specs.Given.ResizeDeclared.copier.Copying.TheVariants as at
use Rattle.map_facts.specs.Given.ResizeDeclared.yielding.Yielding.{Yielding}
use Rattle.map_facts.specs.Given.ResizeDeclared.yielding.Yielding.TheVariants.{Goes}
use Rattle.map_facts.specs.Given.RuleChart.{Chart}
use Rattle.map_facts.specs.Given.RuleInWorld.{IsMapIn}
use Rattle.map_facts.specs.Given.RuleMaps.{spot_of}
use Rattle.map_facts.specs.Given.RuleMoments.{Moments}
use Rattle.map_facts.specs.Given.RuleMoves.{Claims, is_of_caller, after}
use Rattle.map_facts.specs.Given.RuleRule.{IsLawful}
use Rattle.map_facts.specs.Given.RuleWords.{Blocks, Represents}
use Rattle.map_facts.proofs.Given.RuleWords.OwnWords.{own_at_word}
use Rattle.map_facts.proofs.Given.RuleWords.TablesSeen.{len_is}
use Rattle.map_facts.proofs.Given.RuleWorld.Hands.{Hands}
use Rattle.map_facts.specs.FactsCopiesBlocking.{HasNoShares}
use Rattle.map_facts.proofs.Blocking.Targets.{chunk_few, chunk_some, claim_is, claim_shows}
use Rattle.map_facts_late.specs.Left.{ClaimsAreFew}
use Rattle.map_facts_late.specs.LateCopies.{CopiesSuperseded, SupersededCopying}
use Rattle.map_facts_late.proofs.Copiers.LateWent.{LateCame, late_wrote, late_again}
use Rattle.map_facts.proofs.Given.General.{some_is as is_some_of}

module _ {K V : Type 0} (same : K → K → Bool) (hash : K → ℕ) (caller : ℕ) (setting : Setting) (began : ℕ) (w : World (Node K V)) (c : Chart K) (blocks : Blocks)
    (map : IsMapIn same hash setting w c blocks) (lawful : IsLawful same (spot_of hash)) (blocking : is_incremental setting.mode ≡ false)
    (moments : Moments false c) (few : ClaimsAreFew c)
    (p : Copier) (setting_is : p.setting ≡ setting) (u t : ℕ) (late : CopiesSuperseded same hash w caller setting c blocks began p u t) where
  claim_here : word_at w.memory (at_word p.target CLAIM) ≡ Some (c.claim t)
  claim_here = claim_is same hash setting w c blocks map p t late.target

  length : p.source.len ≡ c.len u
  length = len_is hash w.memory c blocks setting.root map.map.shows p.source u late.source

  fits : (c.claim t + chunk p) % 2 ^ 64 ≡ c.claim t + chunk p
  fits =
      let some = chunk_few p.setting.mode p.source.len in
      let most = (map.map.shows.sized u late.source.made).most in
      let small = few t late.target.made in
      omega (arith, some, length, most, small)

  abbrev claimed_chart : Chart K
  claimed_chart = after (spot_of hash) false (Claims caller t (chunk p)) c

  abbrev claimed_memory : Mem (Node K V)
  claimed_memory = with_word w.memory (at_word p.target CLAIM) ((c.claim t + chunk p) % 2 ^ 64)

  claimed_shows : Represents hash claimed_memory claimed_chart blocks setting.root
  claimed_shows =
      claim_shows same hash setting w c blocks map p t late.target ((c.claim t + chunk p) % 2 ^ 64) (c.claim t + chunk p) (sym fits) claimed_chart.share

  hands : Hands same hash setting w claimed_chart blocks
  hands = record { tables = map.tables; pairs = map.pairs; named = map.named; tables_out = map.tables_out; pairs_out = map.pairs_out }

  -- a table that the root has come to has none to give
  no_shares : HasNoShares same hash (record w { memory = claimed_memory }) caller setting claimed_chart blocks
  no_shares v j behind =
      let other : v ≢ t = (λ e. let over = late.over in omega (arith, behind, e, over)) in
      ap (is_of_caller caller) (rw (ne_eqb v t other) refl) ∙ late.idle v j behind

  on : (q : Copier) → q.source ≡ p.source → q.target ≡ p.target → q.whole ≡ p.whole
      → CopiesSuperseded same hash (record w { memory = claimed_memory }) caller setting claimed_chart blocks began q u t
  on q source target whole =
      late_again same hash caller setting began w (record w { memory = claimed_memory }) c claimed_chart blocks refl refl refl refl refl refl refl p q source
      target whole u t no_shares late

  -- places were left, so the target was aborted
  aborted : c.claim t < c.len u → c.status t ≡ ABORTED
  aborted below =
      let order = late.order in
      by (moments.claimed refl t (omega (arith, order)) late.over)
    where
      by : (c.status t ≡ ABORTED) ⊎ (c.len (c.from t) ≤ c.claim t) → c.status t ≡ ABORTED
      by (inl is) = is
      by (inr all) = let whole : c.len u ≤ c.claim t = subst (λ (x : ℕ). c.len x ≤ c.claim t) late.from all in absurd (omega (arith, below, whole))

  pub went_claim : (m2 : Mem (Node K V)) (end : Copier × Yielding (Node K V) Table) → Steps Took value_at w.memory (claims p) m2 end
      → LateCame same hash caller setting began w c blocks m2 end
  went_claim m2 end s =
      let add = added w.memory (claimed p) (at_word p.target CLAIM) (chunk p) m2 end s in
      by_claim add.0 (cc (add.1, claim_here)) add.2
      (ends_if (value_at (with_word w.memory (at_word p.target CLAIM) ((add.0 + chunk p) % 2 ^ 64))) (nat_lt add.0 p.source.len) _ _ end add.3)
    where
      none_left_is : none_left p ≡ record p { spent = true; stands = at.Asks }
      none_left_is = rw late.whole refl

      by_claim : (claim : ℕ) → claim ≡ c.claim t → m2 ≡ with_word w.memory (at_word p.target CLAIM) ((claim + chunk p) % 2 ^ 64)
          → ((nat_lt claim p.source.len ≡ true) × (end ≡ (range_claimed p claim, Goes))) ⊎ ((nat_lt claim p.source.len ≡ false) × (end ≡ (none_left p, Goes)))
          → LateCame same hash caller setting began w c blocks m2 end
      by_claim claim e m2_is ends =
          elim ends as (λ _. LateCame same hash caller setting began w c blocks m2 end) [
            | inl left ↦ (let below = ltb-true claim p.source.len left.0 in
                let some = chunk_some p.setting.mode p.source.len (ap (λ (x : Setting). is_incremental x.mode) setting_is ∙ blocking) (omega (arith, below)) in
                wrote (range_claimed p (c.claim t)) (left.1 ∙ ap (λ (x : ℕ). (range_claimed p x, Goes)) e) setting_is
                (u, t, (on (range_claimed p (c.claim t)) refl refl refl, aborted (omega (arith, below, length, e))), (omega (arith, below, e, some), omega (arith, below, length, e))))
            | inr over ↦ wrote (record p { spent = true; stands = at.Asks }) (over.1 ∙ ap (λ (q : Copier). (q, Goes)) none_left_is) setting_is
                (u, t, on (record p { spent = true; stands = at.Asks }) refl refl refl)
          ]
        where
          wrote : (q : Copier) → end ≡ (q, Goes) → q.setting ≡ setting
              → SupersededCopying same hash (record w { memory = claimed_memory }) caller setting claimed_chart blocks began q q.stands
              → LateCame same hash caller setting began w c blocks m2 end
          wrote q ends q_setting point =
              late_wrote same hash caller setting began w c blocks map lawful blocking (Claims caller t (chunk p)) (refl, late.target.made) (λ i is. sym is)
              late.target.known
              (Add (at_word p.target CLAIM) (chunk p)) (Found (c.claim t)) (at_word p.target CLAIM) ((c.claim t + chunk p) % 2 ^ 64)
              (own_at_word same hash setting w c blocks map caller p.target t CLAIM late.target (omega arith)) (is_some_of _ _ claim_here)
              m2 claim_here (rw (sym e) m2_is) refl refl claimed_shows hands refl end q ends q_setting point
