-- In blocking mode: what a caller knows of tables, and of one that it makes, lasts over steps of others.
use Rattle.std.proofs.Common.{◌≡◌, ◌≢◌, ℕ, ◌*◌, ◌<◌, ◌≤◌, Bool, true, false, cond, ◌⊎◌, inl, inr, arith, ap, sym, subst, ◌∙◌}
use Rattle.std.proofs.lemmas.Bool.{cases_lt}
use Rattle.map_facts.specs.Given.SeizeWordsDeclared.at.At.{At}
use Rattle.map_facts.specs.Given.SeizeWordsDeclared.at.At.TheVariants.{Root, Word}
use Rattle.map_facts.specs.Given.SeizeWorld.{World}
use Rattle.map_facts.specs.Given.TablesChunks.{is_incremental}
use Rattle.map_facts.specs.Given.TablesDeclared.node.Node.{Node}
use Rattle.map_facts.specs.Given.TablesDeclared.setting.Setting.{Setting}
use Rattle.map_facts.specs.Given.TablesDeclared.status.TheConstants.Status.{ABORTED}
use Rattle.map_facts.specs.Given.TablesDeclared.table_words.TheConstants.{NEXT}
use Rattle.map_facts.specs.Given.ResizeDeclared.new_table.NewTable.{NewTable}
use Rattle.map_facts.specs.Given.ResizeDeclared.new_table.Making.{Making as Point}
use Rattle.map_facts.specs.Given.ResizeDeclared.new_table.Making.TheVariants as at
use Rattle.map_facts.specs.Given.RuleChart.{Chart}
use Rattle.map_facts.specs.Given.RuleWords.{Blocks}
use Rattle.map_facts.specs.Given.RuleMaps.{spot_of}
use Rattle.map_facts.specs.Given.RuleLeaves.{Leaves}
use Rattle.map_facts.specs.FactsTables.{IsLinkOf, StandsAs, MakingFacts, NewTableFacts}
use Rattle.map_facts_late.proofs.Known.Tables.{made_on, table_known_on, table_block_on, table_on, own_table_on}
use Rattle.map_facts.specs.Others.{OthersStep}
use Rattle.map_facts_late.specs.Left.{Left}
use Rattle.map_facts_late.specs.LateCalls.{SupersededFirst, SupersededFirstFacts}

module _ {K : Type 0} (same : K → K → Bool) (spot : ℕ → K → ℕ → ℕ) (bit : Bool) (caller : ℕ) (c c2 : Chart K) (leaves : Leaves same spot bit caller c c2) (began : ℕ) where
  -- a table that the root has left it has left
  pub left_on : (t : ℕ) → Left c began t → Left c2 began t
  left_on t h = record {
    behind = (let l = h.behind in let f = leaves.lasts.first in omega (arith, l, f));
    was_root = leaves.spared t (let l = h.behind in omega (arith, l)) h.was_root;
    since = (let s = h.since in let p = leaves.remembers.passed t h.behind in omega (arith, s, p));
  }

  -- the root has left it now
  pub left_now : began ≤ c.now → c.status c.first ≢ ABORTED → c.first < c2.first → Left c2 began c.first
  left_now b live on = record {
    behind = on;
    was_root = leaves.spared c.first (let e : c.first ≤ c.first = omega arith in e) live;
    since = (let p = leaves.remembers.leaves c.first (let e : c.first ≤ c.first = omega arith in e) on in omega (arith, b, p));
  }

module _ {K V : Type 0} (same : K → K → Bool) (hash : K → ℕ) (setting : Setting) (blocking : is_incremental setting.mode ≡ false) (caller : ℕ) (w w2 : World (Node K V)) (c c2 : Chart K)
    (blocks blocks2 : Blocks) (others : OthersStep same hash setting caller w c blocks w2 c2 blocks2) where
  link_of_on : (link : At) (turn : ℕ) → IsLinkOf setting c blocks link turn → IsLinkOf setting c2 blocks2 link turn
  link_of_on link turn (inl root) = inl root
  link_of_on link turn (inr h) =
      inr (
        h.0,
        h.1 ∙ ap (λ (b : ℕ). Word b NEXT) (sym (table_block_on same hash setting caller w w2 c c2 blocks blocks2 others h.0 h.3 h.4)),
        h.2,
        made_on same hash setting caller w w2 c c2 blocks blocks2 others h.0 h.3,
        table_known_on same hash setting caller w w2 c c2 blocks blocks2 others h.0 h.3 h.4,
        subst (λ (x : Bool). cond x (Unit {0}) (c2.first < h.0 → c2.status h.0 ≡ ABORTED)) (sym blocking)
            (λ l. others.leaves.aborted h.0 (before (let f = others.leaves.lasts.first in omega (arith, l, f)))),
      )
    where
      before : c.first < h.0 → c.status h.0 ≡ ABORTED
      before = subst (λ (x : Bool). cond x (Unit {0}) (c.first < h.0 → c.status h.0 ≡ ABORTED)) blocking h.5

  -- one that is made for a place behind a table
  next_making : (b field turn : ℕ) (stands : Point) → MakingFacts w caller setting c blocks (Word b field) turn stands → MakingFacts w2 caller setting c2 blocks2 (Word b field) turn stands
  next_making b field turn (at.Sums before reason sum) h = ((h.0.0, table_on same hash setting caller w w2 c c2 blocks blocks2 others before h.0.0 h.0.1, h.0.2), h.1)
  next_making b field turn (at.Makes table) h = h
  next_making b field turn (at.Promotes table) h = (own_table_on same hash setting caller w w2 c c2 blocks blocks2 others table _ h.0, h.1, h.2)
  next_making b field turn (at.Links table) h = (own_table_on same hash setting caller w w2 c c2 blocks blocks2 others table _ h.0, h.1)
  next_making b field turn (at.Drops table found) h = (
    own_table_on same hash setting caller w w2 c c2 blocks blocks2 others table _ h.0,
    h.1,
    h.2,
    made_on same hash setting caller w w2 c c2 blocks blocks2 others h.1 h.3,
    table_known_on same hash setting caller w w2 c c2 blocks blocks2 others h.1 h.3 h.4,
    h.5 ∙ ap (λ (x : ℕ). x * 2048) (sym (table_block_on same hash setting caller w w2 c c2 blocks blocks2 others h.1 h.3 h.4)),
    h.6,
  )
  next_making b field turn (at.Over table) h = (h.0, h.1, table_on same hash setting caller w w2 c c2 blocks blocks2 others table h.0 h.2)
  next_making b field turn (at.Refused fault) h = h

  pub next_table_on : (t turn : ℕ) → t < c.past → blocks.table_known t ≡ true → (n : NewTable) → NewTableFacts w caller setting c blocks (Word (blocks.table t) NEXT) turn n
      → NewTableFacts w2 caller setting c2 blocks2 (Word (blocks2.table t) NEXT) turn n
  next_table_on t turn made known n h =
      subst (λ (b : ℕ). NewTableFacts w2 caller setting c2 blocks2 (Word b NEXT) turn n) (sym (table_block_on same hash setting caller w w2 c c2 blocks blocks2 others t made known)) (record {
        setting_is = h.setting_is;
        link_is = h.link_is;
        link_of = link_of_on (Word (blocks.table t) NEXT) turn h.link_of;
        point = next_making (blocks.table t) NEXT turn n.stands h.point;
      })

  -- the first one, which the root may have left since it was found
  module _ (began : ℕ) (since : began ≤ c.now) (live : c.status c.first ≢ ABORTED) where
    abbrev Fresh : Point → Type 0
    Fresh stands = MakingFacts w2 caller setting c2 blocks2 (Root setting.root) 0 stands

    abbrev Late : Point → Type 0
    Late stands = SupersededFirst w2 caller setting c2 blocks2 began stands

    is_root : (u : ℕ) → StandsAs setting c (Root setting.root) 0 u → u ≡ c.first
    is_root u h = subst (λ (x : Bool). cond x (u ≤ c.first) (u ≡ c.first)) blocking h

    as_root : (u : ℕ) → u ≡ c2.first → StandsAs setting c2 (Root setting.root) 0 u
    as_root u h = subst (λ (x : Bool). cond x (u ≤ c2.first) (u ≡ c2.first)) (sym blocking) h

    first_making : (stands : Point) → MakingFacts w caller setting c blocks (Root setting.root) 0 stands → Fresh stands ⊎ Late stands
    first_making (at.Sums before reason sum) h = inl ((h.0.0, table_on same hash setting caller w w2 c c2 blocks blocks2 others before h.0.0 h.0.1, h.0.2), h.1)
    first_making (at.Makes table) h = inl h
    first_making (at.Promotes table) h = inl (own_table_on same hash setting caller w w2 c c2 blocks blocks2 others table _ h.0, h.1, h.2)
    first_making (at.Links table) h = inl (own_table_on same hash setting caller w w2 c c2 blocks blocks2 others table _ h.0, h.1)
    first_making (at.Drops table found) (own, u, stands, made, known, is, planned) =
        let own2 = own_table_on same hash setting caller w w2 c c2 blocks blocks2 others table _ own in
        let made2 = made_on same hash setting caller w w2 c c2 blocks blocks2 others u made in
        let known2 = table_known_on same hash setting caller w w2 c c2 blocks blocks2 others u made known in
        let is2 = is ∙ ap (λ (x : ℕ). x * 2048) (sym (table_block_on same hash setting caller w w2 c c2 blocks blocks2 others u made known)) in
        elim (cases_lt c.first c2.first) as (λ _. Fresh (at.Drops table found) ⊎ Late (at.Drops table found)) [
          | inl on ↦ inr (own2, planned, u, subst (Left c2 began) (sym (is_root u stands)) (left_now same (spot_of hash) (is_incremental setting.mode) caller c c2 others.leaves began since live on), made2, known2, is2)
          | inr still ↦ inl (own2, u, as_root u (let e = is_root u stands in let f = others.leaves.lasts.first in omega (arith, still, e, f)), made2, known2, is2, planned)
        ]
    first_making (at.Over table) (u, stands, there) =
        let there2 = table_on same hash setting caller w w2 c c2 blocks blocks2 others table u there in
        elim (cases_lt c.first c2.first) as (λ _. Fresh (at.Over table) ⊎ Late (at.Over table)) [
          | inl on ↦ inr (u, there2, subst (Left c2 began) (sym (is_root u stands)) (left_now same (spot_of hash) (is_incremental setting.mode) caller c c2 others.leaves began since live on))
          | inr still ↦ inl (u, as_root u (let e = is_root u stands in let f = others.leaves.lasts.first in omega (arith, still, e, f)), there2)
        ]
    first_making (at.Refused fault) h = inl h

    pub first_table_on : (n : NewTable) → NewTableFacts w caller setting c blocks (Root setting.root) 0 n
        → NewTableFacts w2 caller setting c2 blocks2 (Root setting.root) 0 n ⊎ SupersededFirstFacts w2 caller setting c2 blocks2 began n
    first_table_on n h = elim (first_making n.stands h.point) [
      | inl fresh ↦ inl (record { setting_is = h.setting_is; link_is = h.link_is; link_of = link_of_on (Root setting.root) 0 h.link_of; point = fresh })
      | inr late ↦ inr (record { setting_is = h.setting_is; link_is = h.link_is; point = late })
    ]

  -- and one that it had left before
  module _ (began : ℕ) where
    late_making : (stands : Point) → SupersededFirst w caller setting c blocks began stands → SupersededFirst w2 caller setting c2 blocks2 began stands
    late_making (at.Drops table found) (own, planned, u, left, made, known, is) = (
      own_table_on same hash setting caller w w2 c c2 blocks blocks2 others table _ own,
      planned,
      u,
      left_on same (spot_of hash) (is_incremental setting.mode) caller c c2 others.leaves began u left,
      made_on same hash setting caller w w2 c c2 blocks blocks2 others u made,
      table_known_on same hash setting caller w w2 c c2 blocks blocks2 others u made known,
      is ∙ ap (λ (x : ℕ). x * 2048) (sym (table_block_on same hash setting caller w w2 c c2 blocks blocks2 others u made known)),
    )
    late_making (at.Over table) (u, there, left) =
        (u, table_on same hash setting caller w w2 c c2 blocks blocks2 others table u there, left_on same (spot_of hash) (is_incremental setting.mode) caller c c2 others.leaves began u left)
    late_making (at.Sums before reason sum) h = absurd h
    late_making (at.Makes table) h = absurd h
    late_making (at.Promotes table) h = absurd h
    late_making (at.Links table) h = absurd h
    late_making (at.Refused fault) h = absurd h

    pub late_first_on : (n : NewTable) → SupersededFirstFacts w caller setting c blocks began n → SupersededFirstFacts w2 caller setting c2 blocks2 began n
    late_first_on n h = record { setting_is = h.setting_is; link_is = h.link_is; point = late_making n.stands h.point }
