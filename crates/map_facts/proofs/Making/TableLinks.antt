-- The step of a making of a table that links it, or finds that another table was linked there.
use Rattle.std.specs.Prelude.{◌≡◌, ◌≢◌, ℕ, suc, ◌+◌, ◌*◌, ◌<◌, ◌≤◌, Bool, true, false, cond, eqb, [], ◌∷◌, Some, Ok, IsSome}
use Rattle.std.proofs.Common.{refl, ap, sym, subst, ◌∙◌, inl, inr, arith}
use Rattle.std.proofs.lemmas.Bool.{eq-eqb, ne_eqb, cases_lt}
use Rattle.map_rule.specs.Given.SeizeWordsOp.{Exchange, Exchanged}
use Rattle.map_rule.specs.Given.SeizeWordsMem.{Mem, Can, Took, value_at, word_at, with_word}
use Rattle.map_rule.specs.Given.SeizeWordsPlan.{May, Steps}
use Rattle.map_rule.specs.Given.SeizeWordsDeclared.at.At.{At}
use Rattle.map_rule.specs.Given.SeizeWordsDeclared.at.At.TheVariants.{Root, Word}
use Rattle.map_rule.proofs.Given.SeizeWordsOneOwner.AfterWrites.{value_at-with_word}
use Rattle.map_rule.proofs.Given.SeizeWordsOneOwner.Operations.{may_exchange, exchanged}
use Rattle.papaya_raw.specs.Given.SeizeLaw.{Linked}
use Rattle.papaya_raw.specs.Given.SeizeWorld.{World, InUse, IsOwn, Links as LinksBlock, with_hand, with_effect}
use Rattle.papaya_raw.specs.Given.SeizeDeclared.advance.Advance.{Advance}
use Rattle.papaya_raw.specs.Given.TablesChunks.{is_incremental}
use Rattle.papaya_raw.specs.Given.TablesNodes.{deferred_word}
use Rattle.map_rule.specs.Given.ResizeNewTable.{goes, done, linked, links}
use Rattle.papaya_raw.specs.Given.TablesDeclared.node.Node.{Node}
use Rattle.papaya_raw.specs.Given.TablesDeclared.node.Node.TheVariants as node
use Rattle.papaya_raw.specs.Given.TablesDeclared.setting.Setting.{Setting}
use Rattle.papaya_raw.specs.Given.TablesDeclared.status.TheConstants.Status.{PENDING, ABORTED, PROMOTED}
use Rattle.papaya_raw.specs.Given.TablesDeclared.table.Table.{Table}
use Rattle.papaya_raw.specs.Given.TablesDeclared.table_words.TheConstants.{NEXT, CLAIM, COPIED, STATUS, PLACES}
use Rattle.map_rule.specs.Given.ResizeDeclared.new_table.NewTable.{NewTable}
use Rattle.map_rule.specs.Given.ResizeDeclared.new_table.Making.TheVariants as at
use Rattle.map_rule.specs.Chart.{put, Chart}
use Rattle.map_rule.specs.Rule.{IsLawful, Rule}
use Rattle.map_rule.specs.Moves.{Links, after, Allowed}
use Rattle.map_rule.specs.Words.{Blocks, Represents}
use Rattle.map_rule.specs.Maps.{spot_of, IsTable}
use Rattle.map_rule.specs.InWorld.{InFootprint, IsMapIn, SparesPairs}
use Rattle.map_facts.specs.FactsTables.{IsPlanned, IsOwnTable, IsLinkOf, StandsAs, IsMadeFor, first_status}
use Rattle.map_facts.specs.Told.{NewTableOutcome}
use Rattle.map_rule.proofs.World.Hands.{Hands, hands_of, hands_linked, own_outside, at_cases}
use Rattle.map_rule.proofs.World.HandsTables.{same_blocks_linked, later_linked, table_linked_is, hands_table}
use Rattle.map_rule.proofs.World.Linked.{IsNewTable, with_table_block}
use Rattle.map_rule.specs.Links.{LeadsTo}
use Rattle.map_rule.proofs.Words.LinksSeen.{root_leads, next_leads}
use Rattle.map_rule.proofs.Words.TablesSeen.{word_stands}
use Rattle.map_rule.proofs.World.Footprints.{framed_written, aside_of}
use Rattle.map_rule.proofs.Words.LinksOwn.{outs_handed, known_same, known_with}
use Rattle.map_rule.proofs.Moves.Writes.{put_here}
use Rattle.map_rule.proofs.World.MovesKnown.{spares_moved}
use Rattle.map_rule.proofs.World.OthersSpared.{keeps_changed, own_not_held}
use Rattle.map_rule.proofs.World.WentStill.{spares_then, spares_written, spares_hand}
use Rattle.map_rule.proofs.World.WentWrote.{counter_of, counter_written, map_in, map_moved, went_after, own_word}
use Rattle.map_rule.proofs.Words.WritesLinked.{first_table_linked, table_linked}
use Rattle.map_facts.proofs.Making.TableMade.{NewTableTells, NewTableWent, told_still, goes_on}
use Rattle.map_rule.proofs.Given.General.{some_is as is_some_of}

module _ {K V : Type 0} (same : K → K → Bool) (hash : K → ℕ) (w : World (Node K V)) (caller : ℕ) (setting : Setting) (c : Chart K) (blocks : Blocks) (link : At) (turn : ℕ)
    (map : IsMapIn same hash setting w c blocks) (n : NewTable) (setting_is : n.setting ≡ setting) (link_is : n.link ≡ link) (of : IsLinkOf setting c blocks link turn)
    (table : Table) (own : IsOwnTable w caller table (first_status link)) (planned : IsPlanned table turn) where
  -- the word that is to link to it, what it may say, and who may write it
  record Stands : Type 0 where
    old : ℕ
    read : word_at w.memory link ≡ Some old
    users : IsOwn deferred_word w.memory link
    mine : InFootprint setting caller w c blocks link
    leads : (found : ℕ) → word_at w.memory link ≡ Some found → (u : ℕ) × StandsAs setting c link turn u × LeadsTo c blocks found u
    last : word_at w.memory link ≡ Some 0 → turn ≡ c.past

  zero_leads : (u : ℕ) → LeadsTo c blocks 0 u → c.past ≤ u
  zero_leads u (inl none) = none.1
  zero_leads u (inr there) = let positive = (map.map.shows.table_numbers u there.1 there.2).0 in absurd (let e = there.0 in omega (arith, e, positive))

  root_stands : (b : Bool) → cond b (c.first ≤ c.first) (c.first ≡ c.first)
  root_stands true = omega arith
  root_stands false = refl

  stands_root : link ≡ Root setting.root → turn ≡ 0 → Stands
  stands_root is none = record {
    old = _;
    read = ap (word_at w.memory) is ∙ map.map.shows.root_there;
    users = subst (λ (l : At). IsOwn deferred_word w.memory l) (sym is) tt;
    mine = subst (λ (l : At). InFootprint setting caller w c blocks l) (sym is) refl;
    leads = λ found read. (
      c.first,
      subst (λ (l : At). StandsAs setting c l turn c.first) (sym is) (root_stands (is_incremental setting.mode)),
      root_leads same hash setting.mode setting.root w.memory c blocks map.map found (sym (ap (word_at w.memory) is) ∙ read),
    );
    last = λ read.
        let past = zero_leads c.first (root_leads same hash setting.mode setting.root w.memory c blocks map.map 0 (sym (ap (word_at w.memory) is) ∙ read)) in
        let rooted = map.map.rule.common.rooted in none ∙ empty rooted past;
  }
    where
      empty : (0 < c.past → c.first < c.past) → c.past ≤ c.first → 0 ≡ c.past
      empty rooted past = grind (arith, rooted)

  stands_word : (t : ℕ) → link ≡ Word (blocks.table t) NEXT → turn ≡ suc t → t < c.past → blocks.table_known t ≡ true → Stands
  stands_word t is next made known = record {
    old = _;
    read = ap (word_at w.memory) is ∙ (map.map.shows.tables t made known).next;
    users = subst (λ (l : At). IsOwn deferred_word w.memory l) (sym is) (own_word hash w.memory c blocks setting.root map.map.shows t NEXT made known (omega arith));
    mine = subst (λ (l : At). InFootprint setting caller w c blocks l) (sym is) (inl (t, made, known, refl));
    leads = λ found read. (suc t, subst (λ (l : At). StandsAs setting c l turn (suc t)) (sym is) (sym next), behind found read);
    last = λ read. let past = zero_leads (suc t) (behind 0 read) in omega (arith, past, made, next);
  }
    where
      entered : IsTable c blocks (record { link = blocks.table t * 2048; len = c.len t; limit = c.limit t; turn = t }) t
      entered = record { made = made; known = known; is = refl }

      behind : (found : ℕ) → word_at w.memory link ≡ Some found → LeadsTo c blocks found (suc t)
      behind found read = next_leads same hash setting.mode setting.root w.memory c blocks map.map (record { link = blocks.table t * 2048; len = c.len t; limit = c.limit t; turn = t }) t found entered
          (ap (word_at w.memory) (word_stands hash w.memory c blocks setting.root map.map.shows (record { link = blocks.table t * 2048; len = c.len t; limit = c.limit t; turn = t }) t entered NEXT ∙ sym is) ∙ read)

  stands : Stands
  stands = elim of as (λ _. Stands) [
    | inl root ↦ stands_root root.0 root.1
    | inr word ↦ stands_word word.0 word.1 word.2 word.3 word.4
  ]

  there : IsSome (word_at w.memory link)
  there = is_some_of _ _ stands.read

  pub may_links : May Can Took value_at w.memory (links n table)
  may_links = may_exchange w.memory (linked n table) n.link 0 table.link (subst (λ (l : At). IsSome (word_at w.memory l)) (sym link_is) there) (λ x is. tt) (λ x is. tt)

  -- another table was there
  found_told : (found : ℕ) → word_at w.memory link ≡ Some found → found ≢ 0 → NewTableOutcome w caller setting c blocks link turn (goes n (at.Drops table found))
  found_told found read some = goes_on same hash w caller setting c blocks link turn map n setting_is link_is of w (at.Drops table found) (at_turn (stands.leads found read))
    where
      at_turn : (u : ℕ) × StandsAs setting c link turn u × LeadsTo c blocks found u
          → IsOwnTable w caller table (first_status link) × (u : ℕ) × StandsAs setting c link turn u × (u < c.past) × (blocks.table_known u ≡ true) × (found ≡ blocks.table u * 2048)
          × IsPlanned table turn
      at_turn (u, at_u, inl none) = absurd (some none.0)
      at_turn (u, at_u, inr r) = (own, u, at_u, r.1, r.2, r.0, planned)

  -- this one was linked
  module _ (lawful : IsLawful same (spot_of hash)) (read : word_at w.memory link ≡ Some 0) where
    last : turn ≡ c.past
    last = stands.last read

    abbrev c2 : Chart K
    c2 = after (spot_of hash) (is_incremental setting.mode) (Links table.len table.limit) c

    abbrev blocks2 : Blocks
    blocks2 = with_table_block blocks c.past own.block

    abbrev written : Mem (Node K V)
    written = with_word w.memory link (own.block * 2048)

    abbrev w2 : World (Node K V)
    w2 = with_effect (with_hand (record w { memory = with_word w.memory link (own.block * 2048) }) own.block (InUse setting.counter)) (Linked own.block setting.counter)

    hands : Hands same hash setting w c blocks
    hands = hands_of same hash setting w c blocks map

    status_is : word_at w.memory (Word own.block STATUS) ≡ Some (cond (eqb c.past 0) PROMOTED PENDING)
    status_is = elim of as (λ _. word_at w.memory (Word own.block STATUS) ≡ Some (cond (eqb c.past 0) PROMOTED PENDING)) [
      | inl root ↦ own.status_is ∙ ap (λ l. Some (first_status l)) root.0 ∙ ap (λ q. Some (cond q PROMOTED PENDING)) (sym (eq-eqb c.past 0 (sym last ∙ root.1)))
      | inr word ↦ own.status_is ∙ ap (λ l. Some (first_status l)) word.1 ∙ ap (λ q. Some (cond q PROMOTED PENDING)) (sym (ne_eqb c.past 0 (let e = word.2 in omega (arith, e, last))))
    ]

    new : IsNewTable w.memory c blocks own.block table.len table.limit
    new = record {
      value = own.value ∙ ap (λ t. Some (node.Table table.len table.limit t)) (planned.turn_is ∙ last);
      next = own.blank NEXT (omega arith) (omega arith);
      claim = own.blank CLAIM (omega arith) (omega arith);
      copied = own.blank COPIED (omega arith) (omega arith);
      status = status_is;
      places = λ i l. own.blank (i + PLACES) (omega arith) (omega arith);
      sized = planned.len;
      some = own.number.0;
      fits = own.number.1;
      apart = (own_outside same hash setting w c blocks own.block caller own.hand hands).tables;
    }

    shown : Represents hash written c2 blocks2 setting.root
    shown = elim of as (λ _. Represents hash written c2 blocks2 setting.root) [
      | inl root ↦ subst (λ (l : At). Represents hash (with_word w.memory l (own.block * 2048)) c2 blocks2 setting.root) (sym root.0)
          (first_table_linked hash same (spot_of hash) (is_incremental setting.mode) w.memory c blocks setting.root own.block table.len table.limit map.map.shows map.map.rule.common new (sym last ∙ root.1))
      | inr word ↦ subst (λ (l : At). Represents hash (with_word w.memory l (own.block * 2048)) c2 blocks2 setting.root) (sym word.1)
          (table_linked hash same (spot_of hash) (is_incremental setting.mode) w.memory c blocks setting.root own.block table.len table.limit map.map.shows map.map.rule.common new word.0 (sym last ∙ word.2))
    ]

    -- in blocking mode, what stands behind the root was aborted
    free : is_incremental setting.mode ≡ false → (u : ℕ) → suc u ≡ c.past → c.first < u → c.status u ≡ ABORTED
    free blocking u behind l = by of
      where
        by : IsLinkOf setting c blocks link turn → c.status u ≡ ABORTED
        by (inl root) = absurd (let none = root.1 in omega (arith, none, last, behind))
        by (inr word) =
            let next = word.2 in
            let same_turn : u ≡ word.0 = omega (arith, last, next, behind) in
            subst (λ (v : ℕ). c.first < v → c.status v ≡ ABORTED) (sym same_turn)
            (subst (λ (q : Bool). cond q (Unit {0}) (c.first < word.0 → c.status word.0 ≡ ABORTED)) blocking word.5) l

    aborted_all : (x : Bool) → is_incremental setting.mode ≡ x → Rule same (spot_of hash) x c
        → cond x (Unit {0}) ((u : ℕ) → c.first < u → u < c.past → c.status u ≡ ABORTED)
    aborted_all true e rule = tt
    aborted_all false e rule = λ u l made.
        elim (cases_lt (suc u) c.past) as (λ _. c.status u ≡ ABORTED) [
          | inl before ↦ rule.in_mode.aborted u l before
          | inr behind ↦ free e u (omega (arith, made, behind)) l
        ]

    allowed : Allowed same (spot_of hash) (is_incremental setting.mode) (Links table.len table.limit) c
    allowed = (let least = planned.len.least in omega (arith, least), planned.limit, aborted_all (is_incremental setting.mode) refl map.map.rule)

    linked_in : IsMapIn same hash setting w2 c2 blocks2
    linked_in =
        map_in same hash setting w2 c2 blocks2
        (map_moved same hash setting lawful w.memory written c blocks blocks2 (Links table.len table.limit) map.map allowed shown
        (later_linked c blocks own.block hash (is_incremental setting.mode) table.len table.limit map.map.later))
        (counter_written setting w.memory link (own.block * 2048) there (counter_of same hash setting w c blocks map))
        (let h = hands_table same hash setting (with_effect (with_hand w own.block (InUse setting.counter)) (Linked own.block setting.counter)) c blocks own.block table.len table.limit map.map.rule.common
        (at_cases (λ x. x ≡ InUse setting.counter) w.hand own.block (InUse setting.counter) own.block (λ e. refl) (λ ne. absurd (ne refl)))
        (hands_linked same hash setting w c blocks own.block caller own.hand hands) in
        record { tables = h.tables; pairs = h.pairs; named = h.named; tables_out = h.tables_out; pairs_out = h.pairs_out })

    stands_new : IsMadeFor setting c2 blocks2 link turn table
    stands_new = (
      c.past,
      elim of as (λ _. StandsAs setting c2 link turn c.past) [
        | inl root ↦ subst (λ (l : At). StandsAs setting c2 l turn c.past) (sym root.0) (at_root (is_incremental setting.mode) (sym last ∙ root.1) (map.map.rule.common.rootless (sym last ∙ root.1)))
        | inr word ↦ subst (λ (l : At). StandsAs setting c2 l turn c.past) (sym word.1) (sym last)
      ],
      table_linked_is c blocks own.block hash (is_incremental setting.mode) table.len table.limit table own.link refl refl (planned.turn_is ∙ last),
    )
      where
        at_root : (x : Bool) → c.past ≡ 0 → c.first ≡ 0 → cond x (c.past ≤ c.first) (c.past ≡ c.first)
        at_root true none first = omega arith
        at_root false none first = none ∙ sym first

    spared : SparesPairs w w2
    spared = spares_then w (record w { memory = written }) w2 (spares_written w link (own.block * 2048) there)
        (spares_hand (record w { memory = written }) own.block (InUse setting.counter) (Linked own.block setting.counter ∷ w.log)
        (λ j k v making is. let is_table = value_at-with_word w.memory link (own.block * 2048) own.block there ∙ own.value in absurd (cc)))

    went_linked : (end : NewTable × Advance Table) → end ≡ done n table → NewTableWent same hash w caller setting c blocks link turn written end
    went_linked end is =
        went_after same hash setting caller w c blocks map (Exchange link 0 (own.block * 2048)) (Exchanged (Ok 0)) stands.users written ((read, refl), refl)
        (LinksBlock caller own.block setting.counter ∷ []) (tt, tt) ((inl (own.hand, λ shards. (let value = own.value in cc (value, shards))), refl), tt) w2 (w2, ((caller, own.hand), refl), refl) refl
        (framed_written setting caller w c blocks link (own.block * 2048) there stands.mine)
        (λ j other. keeps_changed caller w j other link (own.block * 2048) there (aside_of same hash setting caller w c blocks map link stands.mine) own.block (InUse setting.counter) (own_not_held caller j (w.hand own.block) other own.hand))
        c2 blocks2 (spares_moved (spot_of hash) (is_incremental setting.mode) c blocks map.map.shows.linked (Links table.len table.limit) tt)
        (record {
          tables = λ t l m. ap w.hand (ap (put blocks.table c.past own.block) (let e : t ≡ c.past = omega (arith, l, m) in e) ∙ put_here blocks.table c.past own.block) ∙ own.hand;
          pairs = λ x l m. absurd (omega (arith, l, m));
          outs = outs_handed w.memory w.hand own.block (InUse setting.counter) tt;
          known = known_with caller w.hand c2 blocks2 w.hand own.block (InUse setting.counter)
              (λ mine out. inl (c.past, omega arith, put_here blocks.table_known c.past true, sym (put_here blocks.table c.past own.block))) (known_same caller w.hand c2 blocks2);
        })
        (inr (Links table.len table.limit, allowed, refl, λ i by. absurd by)) linked_in
        (same_blocks_linked c blocks own.block)
        (NewTableTells same hash w caller setting c blocks link turn end) (
          spared,
          inr (last, table, ap (λ (e : NewTable × Advance Table). e.1) is, refl),
          subst (λ (e : NewTable × Advance Table). NewTableOutcome w2 caller setting c2 blocks2 link turn e) (sym is) stands_new,
        )

  pub went_links : IsLawful same (spot_of hash) → (m2 : Mem (Node K V)) (end : NewTable × Advance Table) → Steps Took value_at w.memory (links n table) m2 end
      → NewTableWent same hash w caller setting c blocks link turn m2 end
  went_links lawful m2 end s =
      elim (exchanged w.memory (linked n table) n.link 0 table.link m2 end s) as (λ _. NewTableWent same hash w caller setting c blocks link turn m2 end) [
        | inl d ↦ (let read : word_at w.memory link ≡ Some 0 = ap (word_at w.memory) (sym link_is) ∙ d.1.0 ∙ ap Some d.1.1 in
            let wrote : m2 ≡ with_word w.memory link (own.block * 2048) = d.2 ∙ ap (λ l. with_word w.memory l table.link) link_is ∙ ap (λ x. with_word w.memory link x) own.link in
            subst (λ (m : Mem (Node K V)). NewTableWent same hash w caller setting c blocks link turn m end) (sym wrote) (went_linked lawful read end d.3))
        | inr d ↦ told_still same hash w caller setting c blocks link turn map m2 d.2 end
            (subst (λ (e : NewTable × Advance Table). NewTableOutcome w caller setting c blocks link turn e) (sym d.3)
            (found_told d.0 (ap (word_at w.memory) (sym link_is) ∙ d.1.0) d.1.1))
      ]
