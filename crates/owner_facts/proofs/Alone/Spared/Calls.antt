-- Which words a call leaves as they are, in blocking mode, before it changes its map: those of the counter, that of the root but where it promotes a
-- table, and the links to next tables but where it links one.
use Rattle.std.specs.Prelude.{◌≡◌, ℕ, suc, ◌==◌, ◌&&◌, ◌+◌, ◌/◌, ◌<◌, Bool, true, false, Some}
use Rattle.std.proofs.Common.{refl, ap, sym, subst, arith}
use Rattle.std.proofs.lemmas.Bool.{ne_eqb}
use Rattle.many_maps.specs.Given.SeizeWordsDeclared.at.At.{At}
use Rattle.many_maps.specs.Given.SeizeWordsDeclared.at.At.TheVariants.{Root, Used, Slot, Entry, Word}
use Rattle.many_maps.specs.Given.SeizeWordsMem.{same_at, value_at}
use Rattle.many_maps.specs.Given.SeizeWorld.{World, Making}
use Rattle.many_maps.specs.Given.ResizeSum.{sum_plan, plan_at as sum_at}
use Rattle.many_maps.specs.Given.ResizeNewTable.{counted, new_table_plan, plan_at as making_at}
use Rattle.many_maps.specs.Given.ResizeCopier.{copier_plan, plan_at as copying_at}
use Rattle.many_maps.specs.Given.ResizeCopierFurther.{remade}
use Rattle.many_maps.specs.Given.ResizeLookup.{lookup_plan, plan_at as looking_at}
use Rattle.many_maps.specs.Given.TablesTablePlaces.{at_word, at_place}
use Rattle.many_maps.specs.Given.TablesDeclared.node.Node.{Node}
use Rattle.many_maps.specs.Given.TablesDeclared.node.Node.TheVariants as node
use Rattle.many_maps.specs.Given.TablesDeclared.setting.Setting.{Setting}
use Rattle.many_maps.specs.Given.TablesDeclared.table.Table.{Table}
use Rattle.many_maps.specs.Given.TablesDeclared.table_words.TheConstants.{NEXT, CLAIM, COPIED, STATUS, PLACES}
use Rattle.many_maps.specs.Given.ResizeDeclared.sum.Sum.{Sum}
use Rattle.many_maps.specs.Given.ResizeDeclared.sum.Summing.{Summing}
use Rattle.many_maps.specs.Given.ResizeDeclared.sum.Summing.TheVariants as sums
use Rattle.many_maps.specs.Given.ResizeDeclared.lookup.Lookup.{Lookup}
use Rattle.many_maps.specs.Given.ResizeDeclared.lookup.Looking.{Looking}
use Rattle.many_maps.specs.Given.ResizeDeclared.lookup.Looking.TheVariants as looks
use Rattle.many_maps.specs.Given.ResizeDeclared.new_table.NewTable.{NewTable}
use Rattle.many_maps.specs.Given.ResizeDeclared.new_table.Making.{Making as Point}
use Rattle.many_maps.specs.Given.ResizeDeclared.new_table.Making.TheVariants as makes
use Rattle.many_maps.specs.Given.ResizeDeclared.copier.Copier.{Copier}
use Rattle.many_maps.specs.Given.ResizeDeclared.copier.Copying.{Copying}
use Rattle.many_maps.specs.Given.ResizeDeclared.copier.Copying.TheVariants as copies
use Rattle.many_maps.specs.Given.RuleChart.{Chart}
use Rattle.many_maps.specs.Given.RuleWords.{Blocks}
use Rattle.many_maps.specs.Given.RuleMaps.{IsTable}
use Rattle.many_maps.specs.Given.RuleInWorld.{IsMapIn}
use Rattle.many_maps.specs.Given.PointsFactsTables.{IsOwnTable, NewTableFacts, MakingFacts}
use Rattle.many_maps.specs.Given.PointsFactsCopiesBlocking.{CopyingFactsBlocking}
use Rattle.many_maps.specs.Given.PointsTold.{IsRowOfCopier}
use Rattle.many_maps.proofs.Given.RuleWords.TablesSeen.{word_stands, place_stands}
use Rattle.many_maps.proofs.Given.RuleKeys.TriesSeen.{spot_inside}
use Rattle.many_maps.proofs.Given.RuleSpared.{IsFixed, IsBeside, PlanSpares, spares_as}

module _ {K V : Type 0} (same : K → K → Bool) (hash : K → ℕ) (w : World (Node K V)) (caller : ℕ) (setting : Setting) (c : Chart K) (blocks : Blocks) (x : At) where
  -- it is no word of a table but the link to the next one, and none of a block of the caller's own, which is no counter
  pub record IsApart : Type 0 where
    pub fixed : IsFixed x
    pub tables : (t field : ℕ) → t < c.past → blocks.table_known t ≡ true → 0 < field → same_at x (Word (blocks.table t) field) ≡ false
    pub own : (b : ℕ) → w.hand b ≡ Making caller → (value_at w.memory b ≡ Some node.Shards → ⊥) → IsBeside x b

  beside_word : (y : At) (b field : ℕ) → IsBeside y b → same_at y (Word b field) ≡ false
  beside_word (Root r) b field other = refl
  beside_word (Used r) b field other = refl
  beside_word (Slot s i) b field other = refl
  beside_word (Entry k i) b field other = refl
  beside_word (Word k i) b field other = ap (λ (q : Bool). q && (i == field)) (ne_eqb k b other)

  module _ (map : IsMapIn same hash setting w c blocks) (apart : IsApart) where
    -- a word of a table
    pub in_table : (table : Table) (t field : ℕ) → IsTable c blocks table t → 0 < field → same_at x (at_word table field) ≡ false
    in_table table t field entered some =
        subst (λ (y : At). same_at x y ≡ false) (sym (word_stands hash w.memory c blocks setting.root map.map.shows table t entered field)) (apart.tables t field entered.made entered.known some)

    -- a place of it
    pub in_place : (table : Table) (t i : ℕ) → IsTable c blocks table t → i < c.len t → same_at x (at_place table i) ≡ false
    in_place table t i entered inside =
        subst (λ (y : At). same_at x y ≡ false) (sym (place_stands hash w.memory c blocks setting.root map.map.shows table t entered i inside))
        (apart.tables t (i + PLACES) entered.made entered.known (omega arith))

    -- a block of its own table
    own_beside : (table : Table) (status : ℕ) → IsOwnTable w caller table status → IsBeside x (table.link / 2048)
    own_beside table status own =
        let value = own.value in
        let link = own.link in
        subst (IsBeside x) (omega (arith, link)) (apart.own own.block own.hand (λ e. (cc (e, value))))

    pub sum_spares : (sum : Sum) → PlanSpares {T = Node K V} x (sum_plan sum)
    sum_spares sum = by sum.stands
      where
        by : (stands : Summing) → PlanSpares {T = Node K V} x (sum_at sum stands)
        by (sums.Adds shard total) = tt
        by (sums.Over count) = tt

    -- a making of a table
    pub new_table_spares : (link : At) (turn : ℕ) (n : NewTable) → NewTableFacts w caller setting c blocks link turn n → ((table : Table) → n.stands ≡ makes.Links table → same_at x link ≡ false)
        → PlanSpares {T = Node K V} x (new_table_plan n)
    new_table_spares link turn n facts links = by n.stands refl facts.point
      where
        by : (stands : Point) → n.stands ≡ stands → MakingFacts w caller setting c blocks link turn stands → PlanSpares {T = Node K V} x (making_at n stands)
        by (makes.Sums before reason sum) is point = spares_as x (counted n before reason) (sum_plan sum) (sum_spares sum)
        by (makes.Makes table) is point = tt
        by (makes.Promotes table) is point = beside_word x (table.link / 2048) STATUS (own_beside table _ point.0)
        by (makes.Links table) is point = subst (λ (y : At). same_at x y ≡ false) (sym facts.link_is) (links table is)
        by (makes.Drops table found) is point = own_beside table _ point.0
        by (makes.Over table) is point = tt
        by (makes.Refused fault) is point = tt

    -- a lookup
    pub lookup_spares : (keys : K → Bool) (l : Lookup) → PlanSpares {T = Node K V} x (lookup_plan keys l)
    lookup_spares keys l = by l.stands
      where
        by : (stands : Looking) → PlanSpares {T = Node K V} x (looking_at keys l stands)
        by looks.Roots = tt
        by (looks.Probes trial) = tt
        by (looks.Nexts table) = tt
        by (looks.Over found) = tt

    -- a copier of a whole table
    pub copier_spares : (p : Copier) → CopyingFactsBlocking same hash w caller setting c blocks p p.stands → (IsRowOfCopier p.stands → ⊥) → p.setting ≡ setting
        → (p.stands ≡ copies.Promotes → same_at x (Root setting.root) ≡ false)
        → ((t : ℕ) (making : NewTable) (table : Table) → p.stands ≡ copies.Remakes making → making.stands ≡ makes.Links table → IsTable c blocks p.target t → same_at x (Word (blocks.table t) NEXT) ≡ false)
        → PlanSpares {T = Node K V} x (copier_plan hash p)
    copier_spares p facts none setting_is promotes links = by p.stands refl facts none
      where
        by : (stands : Copying) → p.stands ≡ stands → CopyingFactsBlocking same hash w caller setting c blocks p stands → (IsRowOfCopier stands → ⊥) → PlanSpares {T = Node K V} x (copying_at hash p stands)
        by copies.Asks is f row = tt
        by copies.Sees is f row = tt
        by copies.Claims is (t, rests, below) row = in_table p.target t CLAIM rests.0.2 (omega arith)
        by copies.Marks is (t, into, done, range, inside, most) row = in_place p.source c.first p.place into.0 (omega (arith, inside, most))
        by (copies.Probes word code table probe) is f row = tt
        by (copies.Puts word code table probe) is (t, n, k, j, works, code_is, table_is, trial, taken) row =
            in_place table t probe.i trial.table
            (let place = trial.place in let i = spot_inside (c.len t) code j (map.map.rule.common.lens t trial.table.made).0 in omega (arith, place, i))
        by copies.Counts is (t, into, some, done, none_claimed) row = in_table p.target t COPIED into.2 (omega arith)
        by copies.Aborts is (t, gave) row = in_table p.target t STATUS gave.0.0.2 (omega arith)
        by copies.Replaces is f row = tt
        by (copies.Remakes making) is (t, rests, aborted, new) row =
            spares_as x (remade p) (new_table_plan making)
            (new_table_spares (Word (blocks.table t) NEXT) (suc t) making new (λ table links_it. links t making table is links_it rests.0.2))
        by copies.Promotes is f row = subst (λ (s : Setting). same_at x (Root s.root) ≡ false) (sym setting_is) (promotes is)
        by copies.Announces is (s, entered, unlinked) row = in_table p.target c.first STATUS unlinked.1 (omega arith)
        by (copies.Succeeds table) is f row = tt
        by (copies.Retires settle rest) is f row = absurd (row tt)
        by copies.Over is f row = tt
        by (copies.Refused fault) is f row = tt
        by copies.Begins is f row = absurd f
        by copies.Follows is f row = absurd f
        by (copies.Covers word) is f row = absurd f
        by (copies.Passes word code table) is f row = absurd f
        by (copies.Grows word code making) is f row = absurd f
        by (copies.Tallies word fault) is f row = absurd f
        by (copies.Unmarks word fault) is f row = absurd f
        by (copies.Unclaims fault) is f row = absurd f
