-- Which blocks are in the memory after each step of the beginning of a map that runs alone.
use Rattle.std.specs.Prelude.{◌==◌, ◌-◌, ◌%◌, nat_lt, max, if◌then◌else◌}
use Rattle.std.proofs.Common.{◌≡◌, ℕ, ◌+◌, ◌*◌, ◌^◌, ◌<◌, Bool, true, false, Some, inl, inr, ◌⊎◌, refl, arith, ap, sym, subst, ◌∙◌}
use Rattle.many_maps.specs.Given.SeizeWordsDeclared.at.At.{At}
use Rattle.many_maps.specs.Given.SeizeWordsDeclared.at.At.TheVariants.{Root, Used}
use Rattle.many_maps.specs.Given.SeizeWordsDeclared.fault.Fault.TheVariants.{RootsUsedUp, Memory}
use Rattle.many_maps.specs.Given.SeizeWordsMem.{Mem, Can, Took, value_at, word_at}
use Rattle.many_maps.specs.Given.SeizeWordsPlan.{Now, May, Steps}
use Rattle.many_maps.proofs.Given.SeizeWordsOneOwner.Operations.{exchanged, stored, made as make_made, taken}
use Rattle.many_maps.proofs.Given.SeizeWordsPlans.{may_as}
use Rattle.many_maps.proofs.Given.SeizeRuleRows.Leaving.{steps_back}
use Rattle.many_maps.specs.Given.SeizeWorld.{World}
use Rattle.many_maps.specs.Given.SeizeDeclared.advance.Advance.{Advance}
use Rattle.many_maps.specs.Given.SeizeDeclared.advance.Advance.TheVariants as progress
use Rattle.many_maps.specs.Given.ResizeNewMap.{at_root, with_counter, next_root, taken as root_taken, with_shards, made, opened, refused, done, goes, plan_at, new_map_plan}
use Rattle.many_maps.specs.Given.ResizeNewTable.{first_table, new_table_plan}
use Rattle.many_maps.specs.Given.TablesDeclared.node.Node.{Node}
use Rattle.many_maps.specs.Given.TablesDeclared.node.Node.TheVariants as node
use Rattle.many_maps.specs.Given.TablesDeclared.setting.Setting.{Setting}
use Rattle.many_maps.specs.Given.TablesDeclared.table.Table.{Table}
use Rattle.many_maps.specs.Given.ResizeDeclared.new_map.NewMap.{NewMap}
use Rattle.many_maps.specs.Given.ResizeDeclared.new_map.Opening.{Opening}
use Rattle.many_maps.specs.Given.ResizeDeclared.new_map.Opening.TheVariants as at
use Rattle.many_maps.specs.Given.ResizeDeclared.new_table.NewTable.{NewTable}
use Rattle.many_maps.specs.Given.RuleRule.{no_table}
use Rattle.many_maps.specs.Given.RuleWords.{Blocks}
use Rattle.many_maps.specs.Given.PointsFactsTables.{IsLinkOf, NewTableFacts}
use Rattle.owner_facts.specs.Maps.FactsBegins.{OpeningFacts, BeginFacts, BeginOutcome}
use Rattle.many_maps.specs.Given.PointsMade.{IsMadeBy}
use Rattle.owner_facts.specs.Alone.Values.{IsComing, IsMadeByOpening}
use Rattle.owner_facts.specs.Maps.AloneBegins.{HasSameValues, IsAtRoot, HasLinked}
use Rattle.owner_facts.proofs.Alone.Values.Come.{has_come, comes_on, comes_same, values_same}
use Rattle.many_maps.proofs.Given.PointsValues.Kept.{SameValues, plain_keeps}
use Rattle.many_maps.proofs.Given.PointsValues.Left.{Leaves, leaves_made, leaves_taken, leaves_beside}
use Rattle.many_maps.proofs.Given.PointsValues.Making.{MadeAfter, IsLinkedNow, none_made, first_made_none, making_leaves}

module _ {K V : Type 0} (m0 m2 : Mem (Node K V)) where
  -- the blocks after a step
  abbrev pub OpensWith : NewMap × Advance Setting → Type 0
  OpensWith (n, progress.Goes) = IsComing m0 m2 (HasLinked m2 n.setting.root n.stands) (IsMadeByOpening n.setting.counter n.stands)
  OpensWith (n, progress.Waits) = Unit {0}
  OpensWith (n, progress.Done begun) = IsComing m0 m2 (IsAtRoot m2 n.setting.root) (λ b. b ≡ n.setting.counter)
  OpensWith (n, progress.Refused fault) = HasSameValues m0 m2

  none_left : IsComing m0 m2 (λ b. ⊥) (λ b. ⊥) → HasSameValues m0 m2
  none_left holds = values_same m0 m2 (has_come m0 m2 (λ b. ⊥) (λ b. ⊥) holds (λ b k. k))

  next_with : (n : NewMap) → n.stands ≡ at.Takes → IsComing m0 m2 (λ b. ⊥) (λ b. ⊥) → OpensWith (next_root n)
  next_with n here holds = by (nat_lt n.setting.root (n.roots - 1))
    where
      by : (b : Bool) → OpensWith (if b then (record n { setting = at_root n.setting (n.setting.root + 1) }, progress.Goes) else refused n RootsUsedUp)
      by true = subst (λ (o : Opening). IsComing m0 m2 (HasLinked m2 (n.setting.root + 1) o) (IsMadeByOpening n.setting.counter o)) (sym here) holds
      by false = none_left holds

  shards_with : (n : NewMap) → IsComing m0 m2 (λ b. ⊥) (λ b. b ≡ n.setting.counter) → OpensWith (with_shards n)
  shards_with n holds = by (n.len == 0)
    where
      none : (b : ℕ) → IsMadeBy (first_table n.setting n.len).stands b → ⊥
      none b k = none_made _ (first_made_none (max n.len 8)) b k

      of : (b : ℕ) → (b ≡ n.setting.counter) ⊎ IsMadeBy (first_table n.setting n.len).stands b → b ≡ n.setting.counter
      of b (inl k) = k
      of b (inr k) = absurd (none b k)

      by : (b : Bool) → OpensWith (if b then done n else goes n (at.Tables (first_table n.setting n.len)))
      by true = comes_same m0 m2 (λ b. ⊥) (λ b. b ≡ n.setting.counter) holds m2 (λ b. refl) (IsAtRoot m2 n.setting.root) (λ b. b ≡ n.setting.counter) (λ b k. absurd k) (λ b k. k) (λ b k. k)
      by false =
          comes_same m0 m2 (λ b. ⊥) (λ b. b ≡ n.setting.counter) holds m2 (λ b. refl) (λ b. ⊥) (λ b. (b ≡ n.setting.counter) ⊎ IsMadeBy (first_table n.setting n.len).stands b)
          (λ b k. k) (λ b k. inl k) of

module _ {K V : Type 0} (same : K → K → Bool) (hash : K → ℕ) (setting : Setting) (m0 : Mem (Node K V)) (w w2 : World (Node K V)) (n : NewMap) (facts : BeginFacts same hash 0 w setting n)
    (end : NewMap × Advance Setting) where
  -- nothing was made or taken away
  module _ (Came Mine : ℕ → Type 0) (holds : IsComing m0 w.memory Came Mine) (kept : SameValues w.memory w2.memory) where
    stays : (Came2 Mine2 : ℕ → Type 0) → ((b : ℕ) → Came b → Came2 b) → ((b : ℕ) → Mine b → Mine2 b) → ((b : ℕ) → Mine2 b → Mine b) → IsComing m0 w2.memory Came2 Mine2
    stays Came2 Mine2 on to of = comes_same m0 w.memory Came Mine holds w2.memory kept Came2 Mine2 on to of

  on_as : (other : NewMap × Advance Setting) → end ≡ other → OpensWith m0 w2.memory other → OpensWith m0 w2.memory end
  on_as other is h = subst (OpensWith m0 w2.memory) (sym is) h

  -- a first table is made
  module _ (making : NewTable) (blocks : Blocks) (made_so : NewTableFacts w 0 n.setting no_table blocks (Root n.setting.root) 0 making) where
    at_root_now : (b : ℕ) → IsLinkedNow w 0 n.setting no_table blocks w2.memory b → IsAtRoot w2.memory n.setting.root b
    at_root_now b (link, turn, of, making_it, some, read) = by of
      where
        none_past : (t : ℕ) → t < 0 → ⊥
        none_past t l = omega (arith, l)

        by : IsLinkOf {K = K} n.setting no_table blocks link turn → IsAtRoot w2.memory n.setting.root b
        by (inl root) = (some, ap (λ (l : At). word_at w2.memory l) (sym root.0) ∙ read)
        by (inr (t, is, turn_is, past, known, before)) = absurd (none_past t past)

    not_yet : word_at w2.memory (Root n.setting.root) ≡ Some 0 → (b : ℕ) → IsLinkedNow w 0 n.setting no_table blocks w2.memory b → ⊥
    not_yet none b now =
        let there = at_root_now b now in
        let e = zero_is (b * 2048) (sym there.1 ∙ none) in
        let some = there.0 in
        omega (arith, e, some)
      where
        zero_is : (x : ℕ) → Some x ≡ Some 0 → x ≡ 0
        zero_is x e = cc e

    opened_with : (b : NewTable × Advance Table) → IsComing m0 w.memory (λ b. ⊥) (λ b. (b ≡ n.setting.counter) ⊎ IsMadeBy making.stands b)
        → Leaves w.memory w2.memory (IsMadeBy making.stands) (MadeAfter b) (IsLinkedNow w 0 n.setting no_table blocks w2.memory)
        → BeginOutcome same hash 0 setting (at.Tables making) w w2 (opened n b) → OpensWith m0 w2.memory (opened n b)
    opened_with (next, progress.Goes) holds l told =
        comes_on m0 w.memory (λ b. ⊥) (λ b. (b ≡ n.setting.counter) ⊎ IsMadeBy making.stands b) holds w2.memory (λ b. ⊥) (λ b. (b ≡ n.setting.counter) ⊎ IsMadeBy next.stands b)
        (IsLinkedNow w 0 n.setting no_table blocks w2.memory) (λ b k. k) (not_yet told.point.3.map.shows.root_there)
        (leaves_beside w.memory w2.memory (IsMadeBy making.stands) (IsMadeBy next.stands) (IsLinkedNow w 0 n.setting no_table blocks w2.memory) (λ b. b ≡ n.setting.counter) l)
    opened_with (next, progress.Waits) holds l told = tt
    opened_with (next, progress.Done table) holds l told =
        comes_same m0 w2.memory (IsAtRoot w2.memory n.setting.root) (λ b. (b ≡ n.setting.counter) ⊎ ⊥)
        (comes_on m0 w.memory (λ b. ⊥) (λ b. (b ≡ n.setting.counter) ⊎ IsMadeBy making.stands b) holds w2.memory (IsAtRoot w2.memory n.setting.root) (λ b. (b ≡ n.setting.counter) ⊎ ⊥)
        (IsLinkedNow w 0 n.setting no_table blocks w2.memory) (λ b k. absurd k) at_root_now
        (leaves_beside w.memory w2.memory (IsMadeBy making.stands) (λ b. ⊥) (IsLinkedNow w 0 n.setting no_table blocks w2.memory) (λ b. b ≡ n.setting.counter) l))
        w2.memory (λ b. refl) (IsAtRoot w2.memory n.setting.root) (λ b. b ≡ n.setting.counter) (λ b k. k) (λ b k. elim k as (λ _. b ≡ n.setting.counter) [
          | inl h ↦ h
          | inr h ↦ absurd h
        ]) (λ b k. inl k)
    opened_with (next, progress.Refused fault) holds l told =
        comes_same m0 w2.memory (λ b. ⊥) (λ b. (b ≡ n.setting.counter) ⊎ ⊥)
        (comes_on m0 w.memory (λ b. ⊥) (λ b. (b ≡ n.setting.counter) ⊎ IsMadeBy making.stands b) holds w2.memory (λ b. ⊥) (λ b. (b ≡ n.setting.counter) ⊎ ⊥)
        (IsLinkedNow w 0 n.setting no_table blocks w2.memory) (λ b k. k) (not_yet told.point.0.1)
        (leaves_beside w.memory w2.memory (IsMadeBy making.stands) (λ b. ⊥) (IsLinkedNow w 0 n.setting no_table blocks w2.memory) (λ b. b ≡ n.setting.counter) l))
        w2.memory (λ b. refl) (λ b. ⊥) (λ b. b ≡ n.setting.counter) (λ b k. k) (λ b k. elim k as (λ _. b ≡ n.setting.counter) [
          | inl h ↦ h
          | inr h ↦ absurd h
        ]) (λ b k. inl k)

  at_point : (stage : Opening) → n.stands ≡ stage → OpeningFacts same hash 0 w setting n stage → IsComing m0 w.memory (HasLinked w.memory n.setting.root stage) (IsMadeByOpening n.setting.counter stage)
      → BeginOutcome same hash 0 setting stage w w2 end → May Can Took value_at w.memory (plan_at n stage) → Steps Took value_at w.memory (plan_at n stage) w2.memory end → OpensWith m0 w2.memory end
  at_point at.Takes here f holds told may s =
      let now = stays (λ b. ⊥) (λ b. ⊥) holds (plain_keeps w.memory w2.memory (plan_at n at.Takes) end tt may s) (λ b. ⊥) (λ b. ⊥) (λ b k. k) (λ b k. k) (λ b k. k) in
      elim (exchanged w.memory (root_taken n) (Used n.setting.root) 0 1 w2.memory end s) as (λ _. OpensWith m0 w2.memory end) [
        | inl d ↦ on_as (goes n at.Shards) d.3 now
        | inr d ↦ on_as (next_root n) d.3 (next_with m0 w2.memory n here now)
      ]
  at_point at.Shards here f holds told may s =
      elim (make_made w.memory (made n) node.Shards ((n.setting.mask + 1) % 2 ^ 64) w2.memory end s) as (λ _. OpensWith m0 w2.memory end) [
        | inl (b, is, after, e) ↦
            on_as _ e (shards_with m0 w2.memory (record n { setting = with_counter n.setting b })
            (comes_on m0 w.memory (λ x. ⊥) (λ x. ⊥) holds w2.memory (λ x. ⊥) (λ x. x ≡ b) (λ x. ⊥) (λ x k. k) (λ x k. absurd k)
            (leaves_made w.memory w2.memory (λ x. ⊥) (λ x. x ≡ b) (λ x. ⊥) node.Shards ((n.setting.mask + 1) % 2 ^ 64) b is.0 after refl (λ x k. k) (λ x k. k))))
        | inr (back, is, after, e) ↦
            on_as (goes n (at.Frees Memory)) e
            (stays (λ b. ⊥) (λ b. ⊥) holds (λ b. ap (λ (x : Mem (Node K V)). value_at x b) after) (λ b. ⊥) (λ b. ⊥) (λ b k. k) (λ b k. k) (λ b k. k))
      ]
  at_point (at.Tables making) here f holds told may s =
      let b = steps_back (opened n) w.memory w2.memory (new_table_plan making) end s in
      on_as (opened n b.0) b.2
      (opened_with making f.2 f.4 b.0 holds
      (making_leaves w 0 n.setting no_table f.2 w2.memory (Root n.setting.root) 0 making f.4 b.0 (may_as (opened n) Can Took value_at w.memory (new_table_plan making) may) b.1)
      (subst (BeginOutcome same hash 0 setting (at.Tables making) w w2) b.2 told))
  at_point (at.Unmakes fault) here f holds told may s =
      let d = taken w.memory (λ out. Now (goes n (at.Frees fault))) n.setting.counter w2.memory end s in
      on_as (goes n (at.Frees fault)) d.3
      (comes_on m0 w.memory (λ b. ⊥) (λ b. b ≡ n.setting.counter) holds w2.memory (λ b. ⊥) (λ b. ⊥) (λ b. ⊥) (λ b k. k) (λ b k. absurd k)
      (leaves_taken w.memory w2.memory (λ b. b ≡ n.setting.counter) (λ b. ⊥) (λ b. ⊥) n.setting.counter d.0 d.1 d.2 refl (λ b k. k) (λ b k. k)))
  at_point (at.Frees fault) here f holds told may s =
      let d = stored w.memory (λ out. Now (refused n fault)) (Used n.setting.root) 0 w2.memory end s in
      on_as (refused n fault) d.1
      (none_left m0 w2.memory
      (stays (λ b. ⊥) (λ b. ⊥) holds (plain_keeps w.memory w2.memory (plan_at n (at.Frees fault)) end tt may s) (λ b. ⊥) (λ b. ⊥) (λ b k. k) (λ b k. k) (λ b k. k)))
  at_point at.Over here f holds told may s =
      on_as (n, progress.Done n.setting) s.1
      (stays (IsAtRoot w.memory n.setting.root) (λ b. b ≡ n.setting.counter) holds (λ b. ap (λ (x : Mem (Node K V)). value_at x b) s.0) (IsAtRoot w2.memory n.setting.root)
      (λ b. b ≡ n.setting.counter) (λ b k. (k.0, ap (λ (x : Mem (Node K V)). word_at x (Root n.setting.root)) s.0 ∙ k.1)) (λ b k. k) (λ b k. k))
  at_point (at.Refused fault) here f holds told may s =
      on_as (n, progress.Refused fault) s.1
      (none_left m0 w2.memory
      (stays (λ b. ⊥) (λ b. ⊥) holds (λ b. ap (λ (x : Mem (Node K V)). value_at x b) s.0) (λ b. ⊥) (λ b. ⊥) (λ b k. k) (λ b k. k) (λ b k. k)))

  pub opens_with : IsComing m0 w.memory (HasLinked w.memory n.setting.root n.stands) (IsMadeByOpening n.setting.counter n.stands) → BeginOutcome same hash 0 setting n.stands w w2 end
      → May Can Took value_at w.memory (new_map_plan n) → Steps Took value_at w.memory (new_map_plan n) w2.memory end → OpensWith m0 w2.memory end
  opens_with holds told may s = at_point n.stands refl facts.point holds told may s
