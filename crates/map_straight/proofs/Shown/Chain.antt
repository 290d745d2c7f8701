-- Going along the tables of a map, from its root on.
use Rattle.std.specs.Prelude.{◌-◌, Option, None}
use Rattle.std.proofs.Common.{◌≡◌, ℕ, suc, ◌+◌, ◌<◌, ◌≤◌, List, [], ◌∷◌, ◌++◌, Some, refl, ap, sym, ◌∙◌, arith, append_assoc}
use Rattle.std.proofs.lemmas.List.{append-nil}
use Rattle.map_tables.specs.declared.table.Table.{Table}
use Rattle.map_rule.specs.Chart.{Chart}
use Rattle.map_rule.specs.Words.{Blocks}
use Rattle.map_straight.specs.Shown.Shown.{table_at, table_of, tables_on}
use Rattle.map_straight.proofs.Shown.Links.{made_at, unmade_at}

module _ {K : Type 0} (c : Chart K) (blocks : Blocks) where
  -- this is a linked table
  abbrev pub IsLinked : Table → Type 0
  IsLinked table = (c.first ≤ table.turn) × (table.turn < c.past) × (table ≡ table_of c blocks table.turn)

  -- these tables were passed, and this one is next, if there is one
  abbrev pub Walked : Option Table → List Table → Type 0
  Walked next tables =
      (t : ℕ) × (c.first ≤ t) × (next ≡ table_at c blocks t) × (tables ++ tables_on c blocks t (c.past - t) ≡ tables_on c blocks c.first (c.past - c.first))

  linked_of : (table : Table) (t : ℕ) → c.first ≤ t → t < c.past → table ≡ table_of c blocks t → IsLinked table
  linked_of table t linked made is =
      let turn : table.turn ≡ t = ap (λ (x : Table). x.turn) is in
      (omega (arith, linked, turn), omega (arith, made, turn), is ∙ ap (table_of c blocks) (sym turn))

  pub walk_begins : (next : Option Table) → next ≡ table_at c blocks c.first → Walked next []
  walk_begins next is = (c.first, omega arith, is, refl)

  module _ (next : Option Table) (tables : List Table) (walked : Walked next tables) where
    pub walk_linked : (table : Table) → next ≡ Some table → IsLinked table
    walk_linked table some = let m = made_at c blocks walked.0 table next walked.2 some in linked_of table walked.0 walked.1 m.0 m.1

    pub walk_goes : (table : Table) → next ≡ Some table → (behind : Option Table) → behind ≡ table_at c blocks (suc table.turn) → Walked behind (tables ++ table ∷ [])
    walk_goes table some behind is =
        let m = made_at c blocks walked.0 table next walked.2 some in
        let turn : table.turn ≡ walked.0 = ap (λ (x : Table). x.turn) m.1 in
        let left : c.past - walked.0 ≡ suc (c.past - suc walked.0) = omega (arith, m.0) in (
          suc walked.0,
          omega (arith, walked.1),
          is ∙ ap (λ t. table_at c blocks (suc t)) turn,
          append_assoc tables (table ∷ []) (tables_on c blocks (suc walked.0) (c.past - suc walked.0))
              ∙ ap (λ (x : Table). tables ++ (x ∷ tables_on c blocks (suc walked.0) (c.past - suc walked.0))) m.1
              ∙ ap (λ k. tables ++ tables_on c blocks walked.0 k) (sym left) ∙ walked.3,
        )

    pub walk_ends : next ≡ None → tables ≡ tables_on c blocks c.first (c.past - c.first)
    walk_ends none =
        let u = unmade_at c blocks walked.0 next walked.2 none in
        let left : c.past - walked.0 ≡ 0 = omega (arith, u) in
        sym (append-nil tables) ∙ ap (λ k. tables ++ tables_on c blocks walked.0 k) (sym left) ∙ walked.3
