-- Steps of a making of a table that move nothing of the map: the pairs are counted, the table is made, and marked as promoted.
use Rattle.std.specs.Prelude.{◌≡◌, ℕ, suc, ◌+◌, ◌/◌, ◌%◌, ◌^◌, Bool, [], IsSome}
use Rattle.std.specs.Int.{IsPowerOfTwo}
use Rattle.std.proofs.Common.{refl, ap, sym, subst, ◌∙◌, inl, inr, arith}
use Rattle.map_rule.specs.Given.SeizeWordsOp.{Store, Stored}
use Rattle.map_rule.specs.Given.SeizeWordsMem.{Mem, Can, Took, value_at, word_at, with_word}
use Rattle.map_rule.specs.Given.SeizeWordsPlan.{Now, May, Steps, plan_as}
use Rattle.map_rule.specs.Given.SeizeWordsDeclared.at.At.{At}
use Rattle.map_rule.specs.Given.SeizeWordsDeclared.at.At.TheVariants.{Root, Word}
use Rattle.map_rule.proofs.Given.SeizeWordsOneOwner.Operations.{may_store, stored, may_make, made as make_made}
use Rattle.map_rule.proofs.Given.SeizeWordsPlans.{as_may}
use Rattle.map_rule.proofs.Given.SeizeRuleRows.Leaving.{steps_back}
use Rattle.papaya_raw.specs.Given.SeizeWorld.{World, IsOwn}
use Rattle.papaya_raw.specs.Given.SeizeDeclared.advance.Advance.{Advance}
use Rattle.papaya_raw.specs.Given.SeizeDeclared.advance.Advance.TheVariants as progress
use Rattle.papaya_raw.specs.Given.TablesNodes.{deferred_word}
use Rattle.papaya_raw.specs.Given.TablesLengths.{next_len, IsTableLen}
use Rattle.map_rule.specs.Given.ResizeNewTable.{standing, goes, counted, with_block, after_making, made, makes, promotes, making_of}
use Rattle.map_rule.specs.Given.ResizeSum.{sum_plan}
use Rattle.papaya_raw.proofs.Given.TablesLists.{its_list}
use Rattle.map_facts.proofs.Making.ListWords.{has_list_word}
use Rattle.papaya_raw.specs.Given.TablesDeclared.lengths.Reason.{Reason}
use Rattle.papaya_raw.specs.Given.TablesDeclared.node.Node.{Node}
use Rattle.papaya_raw.specs.Given.TablesDeclared.node.Node.TheVariants as node
use Rattle.papaya_raw.specs.Given.TablesDeclared.setting.Setting.{Setting}
use Rattle.papaya_raw.specs.Given.TablesDeclared.status.TheConstants.Status.{PENDING, PROMOTED}
use Rattle.papaya_raw.specs.Given.TablesDeclared.table.Table.{Table}
use Rattle.papaya_raw.specs.Given.TablesDeclared.table_words.TheConstants.{NEXT, STATUS, PLACES}
use Rattle.map_rule.specs.Given.ResizeDeclared.sum.Sum.{Sum}
use Rattle.map_rule.specs.Given.ResizeDeclared.new_table.NewTable.{NewTable}
use Rattle.map_rule.specs.Given.ResizeDeclared.new_table.Making.{Making as Point}
use Rattle.map_rule.specs.Given.ResizeDeclared.new_table.Making.TheVariants as at
use Rattle.map_rule.specs.Chart.{Chart}
use Rattle.map_rule.specs.Words.{Blocks}
use Rattle.map_rule.specs.Maps.{IsTable}
use Rattle.map_rule.specs.InWorld.{IsMapIn, StepSpec, SparesPairs}
use Rattle.map_facts.specs.FactsTables.{SumFacts, IsPlanned, IsOwnTable, IsLinkOf, MakingFacts, NewTableFacts, first_status}
use Rattle.map_facts.specs.Told.{SumOutcome, NewTableOutcome, LinksLast}
use Rattle.map_rule.proofs.World.Framed.{shows_framed}
use Rattle.map_rule.proofs.World.FramedSteps.{frames_written}
use Rattle.map_rule.proofs.World.Hands.{Hands, hands_of, own_outside}
use Rattle.map_rule.proofs.World.Footprints.{framed_written}
use Rattle.map_rule.proofs.Words.LinksOwn.{outs_same, known_same, links_none}
use Rattle.map_rule.proofs.World.MovesKnown.{tables_same}
use Rattle.map_rule.proofs.World.OthersSpared.{own_aside, keeps_written}
use Rattle.map_rule.proofs.World.WentStill.{went_still, spares_same, spares_written, spares_made}
use Rattle.map_rule.proofs.World.WentWrote.{counter_of, went_after, wrote_in}
use Rattle.map_rule.proofs.World.WentMade.{world_made, went_made}
use Rattle.map_facts.proofs.Making.OwnTables.{own_made, own_marked}
use Rattle.map_facts.proofs.Making.Planned.{counted_facts}
use Rattle.map_facts.proofs.Making.Sum.{may_sum, told_sum}
use Rattle.map_rule.proofs.Given.General.{some_is as is_some_of}

module _ {K V : Type 0} (same : K → K → Bool) (hash : K → ℕ) (w : World (Node K V)) (caller : ℕ) (setting : Setting) (c : Chart K) (blocks : Blocks) (link : At) (turn : ℕ) where
  -- what each step of a making tells
  abbrev pub NewTableTells : NewTable × Advance Table → World (Node K V) → Chart K → Blocks → Type 0
  NewTableTells end w2 c2 blocks2 = SparesPairs w w2 × LinksLast hash setting.mode turn c c2 end × NewTableOutcome w2 caller setting c2 blocks2 link turn end

  abbrev pub NewTableWent : Mem (Node K V) → NewTable × Advance Table → Type 0
  NewTableWent m2 end = StepSpec same hash setting caller w c blocks m2 (NewTableTells end)

  module _ (map : IsMapIn same hash setting w c blocks) where
    -- nothing changed
    pub told_still : (m2 : Mem (Node K V)) → m2 ≡ w.memory → (end : NewTable × Advance Table) → NewTableOutcome w caller setting c blocks link turn end → NewTableWent m2 end
    told_still m2 is end told = went_still same hash setting caller w c blocks map m2 is (NewTableTells end) (spares_same w, inl refl, told)

    module _ (n : NewTable) (setting_is : n.setting ≡ setting) (link_is : n.link ≡ link) (of : IsLinkOf setting c blocks link turn) where
      -- it goes on
      pub goes_on : (v : World (Node K V)) (stands : Point) → MakingFacts v caller setting c blocks link turn stands → NewTableFacts v caller setting c blocks link turn (standing n stands)
      goes_on v stands facts = record { setting_is = setting_is; link_is = link_is; link_of = of; point = facts }

      -- the pairs are counted
      module _ (power : IsPowerOfTwo setting.initial) (before : Table) (reason : Reason) (sum : Sum) (entered : (t : ℕ) × IsTable c blocks before t × (turn ≡ suc t)) (facts : SumFacts setting sum) where
        turn_is : turn ≡ suc before.turn
        turn_is = entered.2 ∙ sym (ap (λ (x : Table). suc x.turn) entered.1.is)

        len_is : IsTableLen before.len
        len_is = subst IsTableLen (sym (ap (λ (x : Table). x.len) entered.1.is)) (map.map.shows.sized entered.0 entered.1.made)

        counted_told : (end : Sum × Advance ℕ) → SumOutcome setting end → NewTableOutcome w caller setting c blocks link turn (counted n before reason end)
        counted_told (sum2, progress.Goes) told = goes_on w (at.Sums before reason sum2) (entered, told)
        counted_told (sum2, progress.Waits) told = absurd told
        counted_told (sum2, progress.Done count) told = goes_on w (making_of reason before (next_len reason before.len count n.setting.initial))
            (counted_facts w caller setting c blocks link turn reason before turn_is power len_is count n.setting.initial (ap (λ (s : Setting). s.initial) setting_is))
        counted_told (sum2, progress.Refused fault) told = absurd told

        pub may_sums : May Can Took value_at w.memory (plan_as (counted n before reason) (sum_plan sum))
        may_sums = as_may (counted n before reason) Can Took value_at w.memory (sum_plan sum) (may_sum setting w.memory (counter_of same hash setting w c blocks map) sum facts)

        pub went_sums : (m2 : Mem (Node K V)) (end : NewTable × Advance Table) → Steps Took value_at w.memory (plan_as (counted n before reason) (sum_plan sum)) m2 end → NewTableWent m2 end
        went_sums m2 end s =
            let b = steps_back (counted n before reason) w.memory m2 (sum_plan sum) end s in
            let t = told_sum setting w.memory (counter_of same hash setting w c blocks map) sum facts m2 b.0 b.1 in
            told_still m2 t.0 end (subst (λ (e : NewTable × Advance Table). NewTableOutcome w caller setting c blocks link turn e) (sym b.2) (counted_told b.0 t.1))

      -- the table is made, or memory was refused
      module _ (table : Table) (none : table.link ≡ 0) (planned : IsPlanned table turn) where
        pub may_makes : May Can Took value_at w.memory (makes n table)
        may_makes = may_make w.memory (made n table) (node.Table table.len table.limit table.turn) ((table.len + PLACES) % 2 ^ 64) (λ b is. tt) (λ back is. tt)

        made_facts : (v : World (Node K V)) (b : ℕ) → IsOwnTable v caller (with_block table b) PENDING → (of : IsLinkOf setting c blocks link turn)
            → MakingFacts v caller setting c blocks link turn (after_making link (with_block table b))
        made_facts v b own (inl root) = by link root.0
          where
            by : (l : At) → l ≡ Root setting.root → MakingFacts v caller setting c blocks l turn (after_making l (with_block table b))
            by l e = subst (λ (x : At). MakingFacts v caller setting c blocks x turn (after_making x (with_block table b))) (sym e)
                (own, record { len = planned.len; limit = planned.limit; turn_is = planned.turn_is }, refl)
        made_facts v b own (inr word) = by link word.1
          where
            by : (l : At) → l ≡ Word (blocks.table word.0) NEXT → MakingFacts v caller setting c blocks l turn (after_making l (with_block table b))
            by l e = subst (λ (x : At). MakingFacts v caller setting c blocks x turn (after_making x (with_block table b))) (sym e)
                (own, record { len = planned.len; limit = planned.limit; turn_is = planned.turn_is })

        pub went_makes : (m2 : Mem (Node K V)) (end : NewTable × Advance Table) → Steps Took value_at w.memory (makes n table) m2 end → NewTableWent m2 end
        went_makes m2 end s =
            elim (make_made w.memory (made n table) (node.Table table.len table.limit table.turn) ((table.len + PLACES) % 2 ^ 64) m2 end s) as (λ _. NewTableWent m2 end) [
              | inl d ↦ (let most = planned.len.most in
                  let v : World (Node K V) = world_made same hash setting w c blocks map caller (node.Table table.len table.limit table.turn) ((table.len + PLACES) % 2 ^ 64) d.0 in
                  went_made same hash setting w c blocks map caller (node.Table table.len table.limit table.turn) ((table.len + PLACES) % 2 ^ 64) d.0
                  (has_list_word K V (node.Table table.len table.limit table.turn) ((table.len + PLACES) % 2 ^ 64) (omega arith)) d.1 m2 d.2
                  (NewTableTells end) (
                    spares_made w caller (node.Table table.len table.limit table.turn) ((table.len + PLACES) % 2 ^ 64) d.0 d.1.0,
                    inl refl,
                    subst (λ (e : NewTable × Advance Table). NewTableOutcome v caller setting c blocks link turn e) (sym d.3)
                        (goes_on v (after_making n.link (with_block table d.0))
                        (subst (λ (x : At). MakingFacts v caller setting c blocks link turn (after_making x (with_block table d.0))) (sym link_is)
                        (made_facts v d.0 (own_made w caller table most d.0 d.1.0 d.1.1) of))),
                  ))
              | inr d ↦ told_still m2 d.2 end (subst (λ (e : NewTable × Advance Table). NewTableOutcome w caller setting c blocks link turn e) (sym d.3) tt)
            ]

      -- a first table is marked as promoted
      module _ (table : Table) (own : IsOwnTable w caller table PENDING) (planned : IsPlanned table turn) (root : link ≡ Root setting.root) where
        status_is : Word (table.link / 2048) STATUS ≡ Word own.block STATUS
        status_is = ap (λ b. Word b STATUS) (let l = own.link in omega (arith, l))

        pub may_promotes : May Can Took value_at w.memory (promotes n table)
        may_promotes = may_store w.memory (λ out. Now (goes n (at.Links table))) (Word (table.link / 2048) STATUS) PROMOTED (subst (λ (x : At). IsSome (word_at w.memory x)) (sym status_is) (is_some_of _ _ own.status_is)) tt

        abbrev promoted : World (Node K V)
        promoted = record w { memory = with_word w.memory (Word own.block STATUS) PROMOTED }

        hands : Hands same hash setting w c blocks
        hands = hands_of same hash setting w c blocks map

        promoted_in : IsMapIn same hash setting (record w { memory = with_word w.memory (Word own.block STATUS) PROMOTED }) c blocks
        promoted_in = wrote_in same hash setting caller w c blocks map (Word own.block STATUS) PROMOTED (is_some_of _ _ own.status_is) c blocks
            (record {
              rule = map.map.rule;
              shows = shows_framed hash w.memory (with_word w.memory (Word own.block STATUS) PROMOTED) c blocks setting.root map.map.shows
                  (frames_written hash w.memory c blocks setting.root (Word own.block STATUS) PROMOTED (is_some_of _ _ own.status_is)
                  (λ t made known e. absurd ((own_outside same hash setting w c blocks own.block caller own.hand hands).tables t made known e)));
              later = map.map.later;
            })
            hands

        own_status : IsOwn deferred_word w.memory (Word own.block STATUS)
        own_status = (node.Table table.len table.limit table.turn, own.value, λ e. (let field = its_list {K = K} {V = V} (node.Table table.len table.limit table.turn) STATUS e in omega (arith, field)))

        pub went_promotes : (m2 : Mem (Node K V)) (end : NewTable × Advance Table) → Steps Took value_at w.memory (promotes n table) m2 end → NewTableWent m2 end
        went_promotes m2 end s =
            let d = stored w.memory (λ out. Now (goes n (at.Links table))) (Word (table.link / 2048) STATUS) PROMOTED m2 end s in
            let is : m2 ≡ with_word w.memory (Word own.block STATUS) PROMOTED = d.0 ∙ ap (λ x. with_word w.memory x PROMOTED) status_is in
            subst (λ (x : Mem (Node K V)). NewTableWent x end) (sym is)
            (went_after same hash setting caller w c blocks map (Store (Word own.block STATUS) PROMOTED) Stored own_status (with_word w.memory (Word own.block STATUS) PROMOTED) (tt, refl)
            [] tt tt promoted refl refl
            (framed_written setting caller w c blocks (Word own.block STATUS) PROMOTED (is_some_of _ _ own.status_is) (inr (inl (own.hand, λ shards. (let value = own.value in cc (value, shards))))))
            (λ j other. keeps_written caller w j other (Word own.block STATUS) PROMOTED (is_some_of _ _ own.status_is) (own_aside caller w own.block STATUS own.hand))
            c blocks (tables_same c blocks) (links_none caller w promoted c c blocks refl refl (outs_same w.memory w.hand)
            (known_same caller w.hand c blocks)) (inl refl) promoted_in
            (record { tables = λ t made known. (refl, known); pairs = λ p was known. (refl, known); tables_back = λ t made known. known; pairs_back = λ n was known. known })
            (NewTableTells end) (
              spares_written w (Word own.block STATUS) PROMOTED (is_some_of _ _ own.status_is),
              inl refl,
              subst (λ (e : NewTable × Advance Table). NewTableOutcome promoted caller setting c blocks link turn e) (sym d.1)
                  (goes_on promoted (at.Links table)
                  (subst (λ (l : At). IsOwnTable promoted caller table (first_status l)) (sym root) (own_marked w caller table PENDING PROMOTED own), planned)),
            ))
