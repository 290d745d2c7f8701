-- In incremental mode, a copier says of the table that it has promoted that it is the root, or was; and what comes after, to its end.
use Rattle.std.specs.Prelude.{◌*◌, ◌/◌, if◌then◌else◌, Some, IsSome}
use Rattle.std.proofs.Common.{◌≡◌, ℕ, suc, ◌≤◌, Bool, true, inl, inr, refl, ap, sym, subst, ◌∙◌, arith}
use Rattle.std.proofs.lemmas.Bool.{eq-eqb}
use Rattle.map_rule.specs.Given.SeizeWordsDeclared.at.At.{At}
use Rattle.map_rule.specs.Given.SeizeWordsDeclared.at.At.TheVariants.{Word}
use Rattle.map_rule.specs.Given.SeizeWordsDeclared.fault.Fault.{Fault}
use Rattle.map_rule.specs.Given.SeizeWordsMem.{Mem, value_at, word_at, with_word, Can, Took}
use Rattle.map_rule.specs.Given.SeizeWordsOp.{Store, Stored}
use Rattle.map_rule.specs.Given.SeizeWordsPlan.{Turn, Now, May, Steps}
use Rattle.map_rule.proofs.Given.SeizeWordsOneOwner.Operations.{may_load, loaded, may_store, stored}
use Rattle.papaya_raw.specs.Given.SeizeWorld.{World, IsOwn}
use Rattle.papaya_raw.specs.Given.SeizeSettle.{retiring}
use Rattle.papaya_raw.specs.Given.TablesChunks.{is_incremental}
use Rattle.papaya_raw.specs.Given.TablesNodes.{deferred_word}
use Rattle.papaya_raw.specs.Given.TablesTablePlaces.{at_word}
use Rattle.map_rule.specs.Given.ResizeCopierStates.{standing}
use Rattle.map_rule.specs.Given.ResizeCopierPromotes.{to, announces, succeeds, successor_read, retiring_table, also_retired}
use Rattle.papaya_raw.specs.Given.TablesDeclared.node.Node.{Node}
use Rattle.map_rule.specs.Given.ResizeDeclared.yielding.Yielding.{Yielding}
use Rattle.map_rule.specs.Given.ResizeDeclared.yielding.Yielding.TheVariants as outcome
use Rattle.papaya_raw.specs.Given.TablesDeclared.setting.Setting.{Setting}
use Rattle.papaya_raw.specs.Given.TablesDeclared.status.TheConstants.Status.{PROMOTED}
use Rattle.papaya_raw.specs.Given.TablesDeclared.table.Table.{Table}
use Rattle.papaya_raw.specs.Given.TablesDeclared.table_words.TheConstants.{NEXT, STATUS}
use Rattle.map_rule.specs.Given.ResizeDeclared.copier.Copier.{Copier}
use Rattle.map_rule.specs.Given.ResizeDeclared.copier.Copying.TheVariants as at
use Rattle.map_rule.specs.Chart.{Chart, put}
use Rattle.map_rule.specs.Rule.{IsLawful}
use Rattle.map_rule.specs.Moves.{Announces}
use Rattle.map_rule.specs.Words.{Blocks}
use Rattle.map_rule.specs.Maps.{spot_of}
use Rattle.map_rule.specs.InWorld.{IsMapIn}
use Rattle.map_facts.specs.FactsCopies.{HasDone, ClaimsNone, CopyingFacts, CopierFacts}
use Rattle.map_facts.specs.Told.{CopierOutcome}
use Rattle.map_facts.specs.ToldMoves.{MovedAnnounces}
use Rattle.map_facts.proofs.Copiers.CopiersWrote.{CopierPlain, CopierMoved, copier_moves, copier_stays}
use Rattle.map_rule.proofs.World.Hands.{Hands, hands_of, hands_kept}
use Rattle.map_rule.specs.Links.{LeadsTo}
use Rattle.map_rule.proofs.Words.LinksSeen.{next_leads}
use Rattle.map_rule.proofs.Words.TablesSeen.{word_stands, status_there, next_there, word_seen}
use Rattle.map_rule.proofs.Words.OwnWords.{own_table_word}
use Rattle.map_rule.proofs.World.WentIncremental.{rule_incremental}
use Rattle.map_rule.proofs.Words.WritesTables.{status_written}
use Rattle.map_facts.proofs.Copiers.Probes.{told_still}

module _ {K V : Type 0} (same : K → K → Bool) (hash : K → ℕ) (setting : Setting) (w : World (Node K V)) (caller : ℕ) (c : Chart K) (blocks : Blocks)
    (map : IsMapIn same hash setting w c blocks) (p : Copier) where
  module _ (facts : CopyingFacts same hash w caller setting c blocks p at.Announces) where
    -- the turn of the table that it has promoted, and where its status stands
    abbrev turn : ℕ
    turn = suc facts.0.0

    stands : at_word p.target STATUS ≡ Word (blocks.table turn) STATUS
    stands = word_stands hash w.memory c blocks setting.root map.map.shows p.target turn facts.0.3 STATUS

    there : word_at w.memory (Word (blocks.table turn) STATUS) ≡ Some (c.status turn)
    there = (map.map.shows.tables turn facts.0.3.made facts.0.3.known).status

    some : IsSome (word_at w.memory (at_word p.target STATUS))
    some = word_seen hash w.memory c blocks setting.root map.map.shows p.target turn facts.0.3 (at_word p.target STATUS) _
        (status_there hash w.memory c blocks setting.root map.map.shows p.target turn facts.0.3)

    pub may_announces : May Can Took value_at w.memory (announces p)
    may_announces = may_store w.memory (λ out. to (standing p (at.Succeeds p.source.link))) (at_word p.target STATUS) PROMOTED some tt

    abbrev chart : Chart K
    chart = record c { status = put c.status turn PROMOTED }

    abbrev written : World (Node K V)
    written = record w { memory = with_word w.memory (Word (blocks.table turn) STATUS) PROMOTED }

    hands : Hands same hash setting w chart blocks
    hands = hands_kept same hash setting w c blocks chart (let e : c.first ≤ c.first = omega arith in e) refl refl (λ n e. e)
        (λ t i n phase borrowed l m e. map.named t i n phase borrowed l m e) (hands_of same hash setting w c blocks map)

    told : p.setting ≡ setting → CopierFacts same hash written caller setting chart blocks (standing p (at.Succeeds p.source.link))
    told setting_is = record {
      setting_is = setting_is;
      point = (
        (
          facts.0.0,
          facts.0.1,
          record { made = facts.0.2.made; known = facts.0.2.known; is = facts.0.2.is },
          record { made = facts.0.3.made; known = facts.0.3.known; is = facts.0.3.is },
          facts.0.4,
        ),
        facts.1,
        facts.2,
        refl,
      );
    }

    pub went_announces : IsLawful same (spot_of hash) → is_incremental setting.mode ≡ true → p.setting ≡ setting → (m2 : Mem (Node K V)) (end : Copier × Yielding (Node K V) Table)
        → Steps Took value_at w.memory (announces p) m2 end → CopierMoved same hash caller setting w c blocks (MovedAnnounces hash caller c p) m2 end
    went_announces lawful bits setting_is m2 end s =
        let l = stored w.memory (λ out. to (standing p (at.Succeeds p.source.link))) (at_word p.target STATUS) PROMOTED m2 end s in
        let e : with_word w.memory (at_word p.target STATUS) PROMOTED ≡ written.memory = ap (λ (x : At). with_word w.memory x PROMOTED) stands in
        copier_moves same hash caller setting w c blocks map (MovedAnnounces hash caller c p) bits lawful (Store (at_word p.target STATUS) PROMOTED) Stored (Word (blocks.table turn) STATUS) PROMOTED
        (let own = own_table_word same hash setting w c blocks map caller turn STATUS facts.0.3.made facts.0.3.known (omega arith) in (subst (λ (x : At). IsOwn deferred_word w.memory x) (sym stands) own.0, own.1))
        (rw there refl) m2 tt (l.0 ∙ e) (sym e) (Announces turn) ((λ i by. absurd by), facts.0.3.known) (ap (λ (u : ℕ). record c { status = put c.status u PROMOTED }) (sym (ap (λ (x : Table). x.turn) facts.0.3.is)))
        (facts.0.1, facts.0.3.made, (rule_incremental same hash setting w c blocks map bits).in_mode.never_aborted turn)
        (status_written hash w.memory c blocks setting.root map.map.shows turn PROMOTED facts.0.3.made facts.0.3.known)
        refl hands refl end
        (subst (λ (x : Copier × Yielding (Node K V) Table). CopierOutcome written caller setting chart blocks same hash x) (sym l.1) (told setting_is))

  module _ (table : ℕ) (facts : CopyingFacts same hash w caller setting c blocks p (at.Succeeds table)) where
    -- the table that it has unlinked
    abbrev old : ℕ
    old = facts.0.0

    next_at : at_word p.source NEXT ≡ Word (table / 2048) NEXT
    next_at = ap (λ x. Word (x / 2048) NEXT) (sym facts.3)

    next_some : IsSome (word_at w.memory (Word (table / 2048) NEXT))
    next_some = subst (λ (x : At). IsSome (word_at w.memory x)) next_at
        (word_seen hash w.memory c blocks setting.root map.map.shows p.source old facts.0.2 (at_word p.source NEXT) _ (next_there hash w.memory c blocks setting.root map.map.shows p.source old facts.0.2))

    pub may_succeeds : May Can Took value_at w.memory (succeeds p table)
    may_succeeds = may_load w.memory (successor_read p table) (Word (table / 2048) NEXT) next_some (λ link read. tt)

    -- none but that table is to be retired
    none_further : (link : ℕ) → word_at w.memory (Word (table / 2048) NEXT) ≡ Some link → also_retired p link ≡ 0
    none_further link read = by_lead (next_leads same hash setting.mode setting.root w.memory c blocks map.map p.source old link facts.0.2 (subst (λ (x : At). word_at w.memory x ≡ Some link) (sym next_at) read))
      where
        by_lead : LeadsTo c blocks link (suc old) → also_retired p link ≡ 0
        by_lead (inl none) = let made = facts.0.3.made in absurd (omega (arith, none.1))
        by_lead (inr there) =
            let target_is : p.target.link ≡ blocks.table (suc old) * 2048 = ap (λ (x : Table). x.link) facts.0.3.is in
            ap (λ (b : Bool). if b then 0 else link) (eq-eqb (link / 2048) (p.target.link / 2048) (ap (λ x. x / 2048) (there.0 ∙ sym target_is)))

    pub went_succeeds : p.setting ≡ setting → (m2 : Mem (Node K V)) (end : Copier × Yielding (Node K V) Table)
        → Steps Took value_at w.memory (succeeds p table) m2 end → CopierPlain same hash caller setting w c blocks m2 end
    went_succeeds setting_is m2 end s =
        let l = loaded w.memory (successor_read p table) (Word (table / 2048) NEXT) m2 end s in
        told_still same hash setting w caller c blocks map m2 l.2 (retiring_table p table (also_retired p l.0)) end l.3
        (record {
          setting_is = setting_is;
          point = (
            old,
            facts.0.1,
            (
              subst (λ (x : Setting). retiring x.slot x.batch_size table ≡ retiring setting.slot setting.batch_size (blocks.table old * 2048)) (sym setting_is)
                  (ap (retiring setting.slot setting.batch_size) table_is),
              facts.0.4,
            ),
            none_further l.0 l.1,
            facts.1,
            facts.2,
            facts.0.2.known,
          );
        })
      where
        table_is : table ≡ blocks.table old * 2048
        table_is = facts.3 ∙ ap (λ (x : Table). x.link) facts.0.2.is

  -- it has ended, and does nothing more
  pub went_over : HasDone same hash w caller setting c blocks 0 × ClaimsNone same hash w caller setting c blocks → (m2 : Mem (Node K V)) (end : Copier × Yielding (Node K V) Table)
      → Steps Took value_at w.memory (Turn (Now (p, outcome.Done p.target))) m2 end → CopierMoved same hash caller setting w c blocks (λ c2. c2 ≡ c) m2 end
  went_over facts m2 end s =
      copier_stays same hash caller setting w c blocks map (λ c2. c2 ≡ c) refl m2 s.0 end
      (subst (λ (x : Copier × Yielding (Node K V) Table). CopierOutcome w caller setting c blocks same hash x) (sym s.1) facts)

  pub went_refused : (fault : Fault) → HasDone same hash w caller setting c blocks 0 × ClaimsNone same hash w caller setting c blocks → (m2 : Mem (Node K V)) (end : Copier × Yielding (Node K V) Table)
      → Steps Took value_at w.memory (Turn (Now (p, outcome.Refused fault))) m2 end → CopierMoved same hash caller setting w c blocks (λ c2. c2 ≡ c) m2 end
  went_refused fault facts m2 end s =
      copier_stays same hash caller setting w c blocks map (λ c2. c2 ≡ c) refl m2 s.0 end
      (subst (λ (x : Copier × Yielding (Node K V) Table). CopierOutcome w caller setting c blocks same hash x) (sym s.1) facts)
