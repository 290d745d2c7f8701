-- In incremental mode: what a copier knows at its point it knows after steps of others.
use Rattle.std.specs.Prelude.{◌≡◌, ℕ, suc, ◌*◌, ◌<◌, ◌≤◌, Bool, true, false, Some}
use Rattle.std.proofs.Common.{refl, ap, sym, subst, ◌∙◌, inl, inr, arith}
use Rattle.std.proofs.lemmas.Bool.{cases_lt}
use Rattle.map_facts.specs.Given.SeizeWordsMem.{value_at}
use Rattle.map_facts.specs.Given.SeizeWorld.{World, Cutting}
use Rattle.map_facts.specs.Given.SeizeSettle.{retiring}
use Rattle.map_facts.specs.Given.SeizeDeclared.rows.settle.Settle.{Settle}
use Rattle.map_facts.specs.Given.TablesChunks.{is_incremental}
use Rattle.map_facts.specs.Given.TablesDeclared.node.Node.{Node}
use Rattle.map_facts.specs.Given.TablesDeclared.node.Node.TheVariants as node
use Rattle.map_facts.specs.Given.TablesDeclared.setting.Setting.{Setting}
use Rattle.map_facts.specs.Given.TablesDeclared.probe.Probe.{Probe}
use Rattle.map_facts.specs.Given.TablesDeclared.table.Table.{Table}
use Rattle.map_facts.specs.Given.ResizeDeclared.copier.Copier.{Copier}
use Rattle.map_facts.specs.Given.ResizeDeclared.copier.Copying.{Copying as Point}
use Rattle.map_facts.specs.Given.ResizeDeclared.copier.Copying.TheVariants as at
use Rattle.map_facts.specs.Given.RuleChart.{Phase, Still, Copying, Place, Empty, Tombstone, Holds, Counted, Chart, is_taken}
use Rattle.map_facts.specs.Given.RuleRule.{IsLawful, Rule, Shut, is_of, names}
use Rattle.map_facts.specs.Given.RuleMoves.{is_of_caller, Taken, NamedInRootAlone}
use Rattle.map_facts.specs.Given.RuleWords.{Blocks}
use Rattle.map_facts.specs.Given.RuleMaps.{spot_of, IsTable}
use Rattle.map_facts.specs.Given.RuleInWorld.{IsHeldBy}
use Rattle.map_facts.specs.Given.RuleLeaves.{Leaves, LiesAlike}
use Rattle.map_facts.specs.FactsDisposes.{IsToRetire}
use Rattle.map_facts.specs.FactsCopies.{Copies, HasDone, ClaimsNone, HasSettled, InRange, Works, LooksFor, Tries, Refuses, HasUnlinked, CopyingFacts, CopierFacts}
use Rattle.map_facts.specs.Others.{OthersStep}
use Rattle.map_facts_late.proofs.Known.Tables.{made_on, first_on, len_on, key_on, table_on, trial_on, word_on, table_known_on, table_block_on, next_table_on}
use Rattle.map_facts.proofs.Given.RuleShares.LastsShares.{claimed_own, root_on, mine_on, mine_back, done_on, claims_none_on, idle_done, idle_claims, spent, root_of_done}

module _ {K V : Type 0} (same : K → K → Bool) (hash : K → ℕ) (lawful : IsLawful same (spot_of hash)) (setting : Setting) (bits : is_incremental setting.mode ≡ true) (caller : ℕ) (w w2 : World (Node K V)) (c c2 : Chart K)
    (blocks blocks2 : Blocks) (rule : Rule same (spot_of hash) true c)
    (shown : (t i n : ℕ) (phase : Phase) (borrowed : Bool) → t < c.past → blocks.table_known t ≡ true → c.place t i ≡ Holds n phase borrowed → blocks.pair_known n ≡ true)
    (tabled : (t : ℕ) → t < c.past → blocks.table_known t ≡ true → value_at w.memory (blocks.table t) ≡ Some (node.Table (c.len t) (c.limit t) t)) (rule2 : Rule same (spot_of hash) true c2) (others : OthersStep same hash setting caller w c blocks w2 c2 blocks2) where
  leaves : Leaves same (spot_of hash) true caller c c2
  leaves = subst (λ (x : Bool). Leaves same (spot_of hash) x caller c c2) bits others.leaves

  settled_on : (p : Copier) (t place : ℕ) → HasSettled same hash w caller setting c blocks p t place → HasSettled same hash w2 caller setting c2 blocks2 p t place
  settled_on p t place h whole j l = leaves.lasts.settled t j (h whole j l)

  in_range_on : (p : Copier) (t : ℕ) → t < c.past → InRange same hash w caller setting c blocks p t → InRange same hash w2 caller setting c2 blocks2 p t
  in_range_on p t made h =
      let len = len_on same hash setting caller w w2 c c2 blocks blocks2 others t made in
      subst (λ (n : ℕ). (p.place < n) × (p.end ≤ n) × (p.whole ≡ true → p.end ≡ n)) (sym len) h

  table_here : (table : Table) (t : ℕ) → IsTable c blocks table t → IsTable c2 blocks2 table t
  table_here = table_on same hash setting caller w w2 c c2 blocks blocks2 others

  idle_here : HasDone same hash w caller setting c blocks 0 → ClaimsNone same hash w caller setting c blocks
      → HasDone same hash w2 caller setting c2 blocks2 0 × ClaimsNone same hash w2 caller setting c2 blocks2
  idle_here done none = (idle_done same (spot_of hash) caller c c2 rule leaves done none, idle_claims same (spot_of hash) caller c c2 rule leaves done none)

  cut_here : (t : ℕ) → t < c.past → blocks.table_known t ≡ true → w.hand (blocks.table t) ≡ Cutting caller → w2.hand (blocks2.table t) ≡ Cutting caller
  cut_here t made known cut = ap w2.hand (table_block_on same hash setting caller w w2 c c2 blocks blocks2 others t made known) ∙ (others.own.blocks (blocks.table t) _ (tabled t made known) (λ e. absurd (cc e)) (subst (IsHeldBy caller) (sym cut) refl)).0 ∙ cut

  retires_here : (t : ℕ) → t < c.past → blocks.table_known t ≡ true → (settle : Settle) → IsToRetire w caller setting settle (blocks.table t) → IsToRetire w2 caller setting settle (blocks2.table t)
  retires_here t made known settle h =
      (h.0 ∙ ap (λ (b : ℕ). retiring setting.slot setting.batch_size (b * 2048)) (sym (table_block_on same hash setting caller w w2 c c2 blocks blocks2 others t made known)), cut_here t made known h.1)

  table_made : (t : ℕ) → suc t ≤ c.first → t < c.past
  table_made t l = elim (cases_lt 0 c.past) [
    | inl there ↦ (let f = rule.common.rooted there in omega (arith, l, f))
    | inr none ↦ (let f = rule.common.rootless (omega (arith, none)) in absurd (omega (arith, l, f)))
  ]

  -- the table that it copies, and the one behind
  spent_here : (p : Copier) (t : ℕ) → Copies same hash w caller setting c blocks p t → HasDone same hash w caller setting c blocks p.done → c.first < c2.first → p.done ≡ 0
  spent_here p t h done on = elim (cases_lt t c.first) [
    | inl before ↦ h.3 before
    | inr root ↦ spent same (spot_of hash) caller c c2 rule leaves (let l = h.2 in let m = h.1.made in omega (arith, root, l, m)) p.done done on
  ]

  copies_here : (p : Copier) (t : ℕ) → Copies same hash w caller setting c blocks p t → (c.first < c2.first → p.done ≡ 0) → Copies same hash w2 caller setting c2 blocks2 p t
  copies_here p t h gone = (
    table_here p.source t h.0,
    table_here p.target (suc t) h.1,
    first_on same hash setting caller w w2 c c2 blocks blocks2 others t h.2,
    λ l. elim (cases_lt t c.first) [
      | inl before ↦ h.3 before
      | inr root ↦ gone (let k = h.2 in omega (arith, root, l, k))
    ],
  )

  spent_copies : (p : Copier) (t : ℕ) → Copies same hash w caller setting c blocks p t → p.done ≡ 0 → Copies same hash w2 caller setting c2 blocks2 p t
  spent_copies p t h none = copies_here p t h (λ on. none)

  -- where it is to copy none, and has done so many
  done_here : (p : Copier) (t : ℕ) → Copies same hash w caller setting c blocks p t → HasDone same hash w caller setting c blocks p.done → ClaimsNone same hash w caller setting c blocks
      → HasDone same hash w2 caller setting c2 blocks2 p.done × ClaimsNone same hash w2 caller setting c2 blocks2
  done_here p t h done none = elim (cases_lt c.first c2.first) [
    | inl on ↦
        let zero_done = spent_here p t h done on in
        let idle = idle_here (sym zero_done ∙ done) none in (zero_done ∙ idle.0, idle.1)
    | inr still ↦
        let root : c2.first ≡ c.first = (let f = leaves.lasts.first in omega (arith, still, f)) in
        let made : c.first < c.past = rule.common.rooted (let m = h.0.made in omega (arith, m)) in
        (done_on same (spot_of hash) caller c c2 rule leaves root made p.done done, claims_none_on same (spot_of hash) caller c c2 rule leaves root none)
  ]

  -- it copies a pair
  module _ (p : Copier) (n : ℕ) (k : K) (word : ℕ) (works : Works same hash w caller setting c blocks p n k word) where
    mine : is_of_caller caller (c.share (suc c.first) p.place) ≡ true
    mine = claimed_own caller _ works.claims.0

    next : suc c.first < c.past
    next = works.copies.1.made

    root_there : c.first < c.past
    root_there = works.copies.0.made

    root : c2.first ≡ c.first
    root = root_on same (spot_of hash) caller c c2 rule leaves p.place next works.in_range.0 mine

    kept : (c2.place c.first p.place ≡ Holds n Copying works.borrowed) × LiesAlike same (spot_of hash) true c c2 n
    kept = leaves.my_place refl p.place n works.borrowed next works.in_range.0 works.claims.0 works.place

    was : n < c.stored
    was = (rule.common.keyed c.first p.place n Copying works.borrowed works.place).0

    known : blocks.pair_known n ≡ true
    known = shown c.first p.place n Copying works.borrowed root_there works.copies.0.known works.place

    key2 : c2.key n ≡ Some k
    key2 = key_on same hash setting caller w w2 c c2 blocks blocks2 others n was ∙ works.key

    works_here : Works same hash w2 caller setting c2 blocks2 p n k word
    works_here = record {
      copies = (
        subst (λ (t : ℕ). IsTable c2 blocks2 p.source t) (sym root) (table_here p.source c.first works.copies.0),
        subst (λ (t : ℕ). IsTable c2 blocks2 p.target (suc t)) (sym root) (table_here p.target (suc c.first) works.copies.1),
      );
      has_done = done_on same (spot_of hash) caller c c2 rule leaves root root_there p.done works.has_done;
      claims = (
        mine_on same (spot_of hash) caller c c2 rule leaves root p.place mine ∙ works.claims.0,
        λ j e. works.claims.1 j (sym (mine_back same (spot_of hash) caller c c2 rule leaves root j (claimed_own caller _ e)) ∙ e),
      );
      in_range = subst (λ (t : ℕ). InRange same hash w2 caller setting c2 blocks2 p t) (sym root) (in_range_on p c.first root_there works.in_range);
      settled = subst (λ (t : ℕ). HasSettled same hash w2 caller setting c2 blocks2 p t p.place) (sym root) (settled_on p c.first p.place works.settled);
      borrowed = works.borrowed;
      place = ap (λ (t : ℕ). c2.place t p.place) root ∙ kept.0;
      key = key2;
      word_is = works.word_is ∙ sym (word_on same hash setting caller w w2 c c2 blocks blocks2 others n was known Still works.borrowed);
    }

    -- nobody else puts its class behind the root
    module _ (alone : NamedInRootAlone same (spot_of hash) true c k) (t i : ℕ) (l : c2.first < t) where
      later : c.first < t
      later = let r = root in omega (arith, r, l)

      at_root : c2.place c2.first p.place ≡ Holds n Copying works.borrowed
      at_root = ap (λ (u : ℕ). c2.place u p.place) root ∙ kept.0

      class_is : is_of same (spot_of hash) true k (c2.key n) ≡ true
      class_is = ap (is_of same (spot_of hash) true k) key2 ∙ lawful.classes.refl k

      -- not this pair
      not_this : (phase : Phase) (borrowed : Bool) → c2.place t i ≡ Holds n phase borrowed → ⊥
      not_this phase borrowed e =
          let before = (kept.1 t i later).0 phase borrowed e in
          let not = sym (ap (names same (spot_of hash) true c.key k) before) ∙ alone t i later in
          let is = ap (is_of same (spot_of hash) true k) works.key ∙ lawful.classes.refl k in
          cc (not, is)

      not_moving : (o : ℕ) (phase : Phase) (borrowed : Bool) → c2.place t i ≡ Holds o phase borrowed → is_of same (spot_of hash) true k (c2.key o) ≡ true
          → (j : ℕ) (b : Bool) → c2.place c2.first j ≡ Holds o Copying b → ⊥
      not_moving o phase borrowed e of j b moving =
          let here = rule2.common.once c2.first j p.place o n Copying Copying b works.borrowed k rule2.common.live moving at_root of class_is in
          let is : o ≡ n = number (sym moving ∙ ap (c2.place c2.first) here ∙ at_root) in
          not_this phase borrowed (e ∙ ap (λ (x : ℕ). Holds x phase borrowed) is)
        where
          number : {a d : Bool} → Holds o Copying a ≡ Holds n Copying d → o ≡ n
          number q = cc q

      not_shut : (other : K) → same k other ≡ true → Shut same (spot_of hash) true c2 c2.first other → ⊥
      not_shut other one shut =
          let copied = shut.0 p.place n Copying works.borrowed at_root (ap (is_of same (spot_of hash) true other) key2 ∙ lawful.classes.symm other k ∙ one) in cc copied

      not_another : (o : ℕ) (phase : Phase) (borrowed : Bool) → c2.place t i ≡ Holds o phase borrowed → is_of same (spot_of hash) true k (c2.key o) ≡ true → ⊥
      not_another o phase borrowed e of =
          let has = rule2.common.keyed t i o phase borrowed e in
          elim (rule2.in_mode.chain c2.first t i o phase borrowed has.1 e has.2 l (omega arith)) as (λ _. ⊥) [
            | inl shut ↦ not_shut has.1 (sym (ap (is_of same (spot_of hash) true k) has.2) ∙ of) shut
            | inr moving ↦ not_moving o phase borrowed e of moving.2.0 moving.2.1 moving.2.2
          ]

      named_none : (p2 : Place) → c2.place t i ≡ p2 → names same (spot_of hash) true c2.key k p2 ≡ false
      named_none (Empty m) e = refl
      named_none (Tombstone m) e = refl
      named_none (Holds o phase borrowed) e = by (is_of same (spot_of hash) true k (c2.key o)) refl
        where
          by : (q : Bool) → is_of same (spot_of hash) true k (c2.key o) ≡ q → is_of same (spot_of hash) true k (c2.key o) ≡ false
          by true f = absurd (not_another o phase borrowed e f)
          by false f = f

    named_here : NamedInRootAlone same (spot_of hash) true c k → NamedInRootAlone same (spot_of hash) true c2 k
    named_here alone t i l = named_none alone t i l (c2.place t i) refl

    looks_here : (t : ℕ) → t ≤ c.past → LooksFor same hash w caller setting c blocks k t → LooksFor same hash w2 caller setting c2 blocks2 k t
    looks_here t made h = (named_here h.0, λ u l m. leaves.lasts.shut u k refl (omega (arith, made, m)) (h.1 u (let r = root in omega (arith, r, l)) m))

    later_here : (t : ℕ) → c.first < t → c2.first < t
    later_here t l = let r = root in omega (arith, r, l)

  tries_here : (p : Copier) (word code : ℕ) (table : Table) (probe : Probe) → Tries same hash w caller setting c blocks p word code table probe → Tries same hash w2 caller setting c2 blocks2 p word code table probe
  tries_here p word code table probe h = (
    h.0,
    h.1,
    h.2,
    h.3,
    works_here p h.0 h.1 word h.4,
    h.5,
    later_here p h.0 h.1 word h.4 h.2 h.6,
    trial_on same hash setting caller w w2 c c2 blocks blocks2 others _ code h.2 h.3 h.7,
    λ g l. taken_on g (h.8 g l),
    looks_here p h.0 h.1 word h.4 h.2 (let m = h.7.table.made in omega (arith, m)) h.9,
  )
    where
      taken_on : (g : ℕ) → Taken same (spot_of hash) true c h.2 h.1 g → Taken same (spot_of hash) true c2 h.2 h.1 g
      taken_on g e = subst (λ (x : ℕ). is_taken true (c2.place h.2 (spot_of hash x h.1 g)) ≡ true) (sym (leaves.lasts.lens h.2 h.7.table.made).0) (leaves.lasts.taken h.2 (spot_of hash (c.len h.2) h.1 g) e)

  refuses_here : (p : Copier) (word : ℕ) → Refuses same hash w caller setting c blocks p word → Refuses same hash w2 caller setting c2 blocks2 p word
  refuses_here p word h = (h.0, h.1, works_here p h.0 h.1 word h.2, named_here p h.0 h.1 word h.2 h.3)

  unlinked_here : (p : Copier) → HasUnlinked same hash w caller setting c blocks p → HasUnlinked same hash w2 caller setting c2 blocks2 p
  unlinked_here p h = (
    h.0,
    first_on same hash setting caller w w2 c c2 blocks blocks2 others (suc h.0) h.1,
    table_here p.source h.0 h.2,
    table_here p.target (suc h.0) h.3,
    cut_here h.0 h.2.made h.2.known h.4,
  )

  point_here : (p : Copier) (stands : Point) → CopyingFacts same hash w caller setting c blocks p stands → CopyingFacts same hash w2 caller setting c2 blocks2 p stands
  point_here p at.Begins h = (made_on same hash setting caller w w2 c c2 blocks blocks2 others 0 h.0, h.1, (idle_here h.2 h.3).0, (idle_here h.2 h.3).1, h.4)
  point_here p at.Follows h = let i = idle_here h.1 h.2 in
      (h.0, i.0, i.1, h.3, h.4, first_on same hash setting caller w w2 c c2 blocks blocks2 others h.4 h.5, table_here p.source h.4 h.6)
  point_here p at.Asks h = let i = idle_here h.3 h.4 in (
    h.0,
    spent_copies p h.0 h.1 h.2,
    h.2,
    i.0,
    i.1,
    h.5,
    h.6,
    subst (λ (n : ℕ). HasSettled same hash w2 caller setting c2 blocks2 p h.0 n) (sym (len_on same hash setting caller w w2 c c2 blocks blocks2 others h.0 h.1.0.made)) (settled_on p h.0 (c.len h.0) h.7),
  )
  point_here p at.Sees h = let i = idle_here h.3 h.4 in (h.0, spent_copies p h.0 h.1 h.2, h.2, i.0, i.1, h.5)
  point_here p at.Claims h = let i = idle_here h.3 h.4 in (h.0, spent_copies p h.0 h.1 h.2, h.2, i.0, i.1, h.5)
  point_here p at.Marks h =
      let d = done_here p h.0 h.1 h.2 h.3 in
      (h.0, copies_here p h.0 h.1 (spent_here p h.0 h.1 h.2), d.0, d.1, in_range_on p h.0 h.1.0.made h.4, settled_on p h.0 p.place h.5)
  point_here p (at.Probes word code table probe) h = tries_here p word code table probe h
  point_here p (at.Puts word code table probe) h = tries_here p word code table probe h
  point_here p (at.Covers word) h =
      let s = (kept p h.0 h.1 word h.2).1 h.3.0 h.3.1 h.3.2 in
      (h.0, h.1, works_here p h.0 h.1 word h.2, (h.3.0, h.3.1, later_here p h.0 h.1 word h.2 h.3.0 h.3.2, s.1 true h.3.3))
  point_here p (at.Passes word code table) h = (
    h.0,
    h.1,
    h.2,
    works_here p h.0 h.1 word h.3,
    h.4,
    later_here p h.0 h.1 word h.3 h.2 h.5,
    table_here table h.2 h.6,
    looks_here p h.0 h.1 word h.3 (suc h.2) (let m = h.6.made in omega (arith, m)) h.7,
  )
  point_here p (at.Grows word code making) h = (
    h.0,
    h.1,
    h.2,
    works_here p h.0 h.1 word h.3,
    h.4,
    later_here p h.0 h.1 word h.3 h.2 h.5,
    looks_here p h.0 h.1 word h.3 (suc h.2) (let m = h.7 in omega (arith, m)) h.6,
    made_on same hash setting caller w w2 c c2 blocks blocks2 others h.2 h.7,
    table_known_on same hash setting caller w w2 c c2 blocks blocks2 others h.2 h.7 h.8,
    next_table_on same hash setting bits caller w w2 c c2 blocks blocks2 others h.2 (suc h.2) h.7 h.8 making h.9,
  )
  point_here p at.Counts h =
      let root = root_of_done same (spot_of hash) caller c c2 rule leaves h.0.1.made p.done h.2 h.1 in (
        (
          subst (λ (t : ℕ). IsTable c2 blocks2 p.source t) (sym root) (table_here p.source c.first h.0.0),
          subst (λ (t : ℕ). IsTable c2 blocks2 p.target (suc t)) (sym root) (table_here p.target (suc c.first) h.0.1),
        ),
        h.1,
        done_on same (spot_of hash) caller c c2 rule leaves root h.0.0.made p.done h.2,
        claims_none_on same (spot_of hash) caller c c2 rule leaves root h.3,
        subst (λ (t : ℕ). HasSettled same hash w2 caller setting c2 blocks2 p t (c2.len t)) (sym root)
            (subst (λ (n : ℕ). HasSettled same hash w2 caller setting c2 blocks2 p c.first n) (sym (len_on same hash setting caller w w2 c c2 blocks blocks2 others c.first h.0.0.made)) (settled_on p c.first (c.len c.first) h.4)),
      )
  point_here p (at.Tallies word fault) h = refuses_here p word h
  point_here p (at.Unmarks word fault) h = (refuses_here p word h.0, h.1)
  point_here p (at.Unclaims fault) h = let i = idle_here h.3 h.4 in (h.0, spent_copies p h.0 h.1 h.2, h.2, i.0, i.1)
  point_here p at.Promotes h = let i = idle_here h.3 h.4 in (h.0, spent_copies p h.0 h.1 h.2, h.2, i.0, i.1, λ e j l. counted e j l)
    where
      counted : h.0 ≡ c2.first → (j : ℕ) → j < c2.len h.0 → c2.share (suc h.0) j ≡ Counted
      counted e j l =
          let root : h.0 ≡ c.first = (let a = h.1.2 in let f = leaves.lasts.first in omega (arith, e, a, f)) in
          leaves.counted (suc h.0) j (h.5 root j (let n = len_on same hash setting caller w w2 c c2 blocks blocks2 others h.0 h.1.0.made in omega (arith, l, n)))
  point_here p at.Announces h = let i = idle_here h.1 h.2 in (unlinked_here p h.0, i.0, i.1)
  point_here p (at.Succeeds table) h = let i = idle_here h.1 h.2 in (unlinked_here p h.0, i.0, i.1, h.3)
  point_here p (at.Retires settle rest) h =
      let i = idle_here h.4 h.5 in
      let made : h.0 < c.past = table_made h.0 h.1 in
      (h.0, first_on same hash setting caller w w2 c c2 blocks blocks2 others (suc h.0) h.1, retires_here h.0 made h.6 settle h.2, h.3, i.0, i.1, table_known_on same hash setting caller w w2 c c2 blocks blocks2 others h.0 made h.6)
  point_here p at.Over h = idle_here h.0 h.1
  point_here p (at.Refused fault) h = idle_here h.0 h.1
  point_here p at.Aborts h = absurd h
  point_here p at.Replaces h = absurd h
  point_here p (at.Remakes making) h = absurd h

  pub copier_on : (p : Copier) → CopierFacts same hash w caller setting c blocks p → CopierFacts same hash w2 caller setting c2 blocks2 p
  copier_on p h = record { setting_is = h.setting_is; point = point_here p p.stands h.point }

  pub idle_on : HasDone same hash w caller setting c blocks 0 × ClaimsNone same hash w caller setting c blocks
      → HasDone same hash w2 caller setting c2 blocks2 0 × ClaimsNone same hash w2 caller setting c2 blocks2
  idle_on h = idle_here h.0 h.1
