-- A step of the end of a map that owns its collector lowers its number.
use Rattle.std.specs.Prelude.{◌-◌, Option, Some, None}
use Rattle.std.proofs.Common.{◌≡◌, ℕ, zero, suc, ◌+◌, ◌<◌, ◌≤◌, Bool, true, List, [], ◌∷◌, ◌++◌, length, map, inl, inr, refl, sym, ap, subst, ◌∙◌, arith}
use Rattle.std.proofs.lemmas.List.{length-append}
use Rattle.many_maps.specs.Given.SeizeWordsDeclared.at.At.TheVariants.{Entry}
use Rattle.many_maps.specs.Given.SeizeWordsMem.{Mem, Took, value_at, word_at}
use Rattle.many_maps.specs.Given.SeizeWordsPlan.{Steps}
use Rattle.many_maps.specs.Given.SeizeDeclared.states.TheConstants.{NEXT}
use Rattle.many_maps.specs.Given.SeizeDeclared.rows.settle.Settled.{Settled}
use Rattle.many_maps.specs.Given.SeizeDeclared.rows.settle.Settled.TheVariants as settled
use Rattle.many_maps.specs.Given.SeizeFurther.{FurtherAre, FurtherFrom, ListFrom}
use Rattle.many_maps.specs.Given.TablesChunks.{is_incremental}
use Rattle.many_maps.specs.Given.TablesNodes.{deferred_word}
use Rattle.many_maps.specs.Given.TablesDeclared.node.Node.{Node}
use Rattle.many_maps.specs.Given.RawEndMap.{end_map_plan}
use Rattle.many_maps.specs.Given.RawDeclared.machines.end_map.EndMap.{EndMap}
use Rattle.many_maps.specs.Given.PointsMeasures.{IsBelow}
use Rattle.many_maps.specs.Endings.{Finishing}
use Rattle.many_maps.specs.FactsEnds.{back_of}
use Rattle.many_maps.specs.Orders.{given_of, pairs_of, tables_in}
use Rattle.many_maps.specs.Owners.{OwnEndFacts}
use Rattle.owner_facts.proofs.Maps.Begins.MachinesEnd.{lowered_ends}
use Rattle.many_maps.specs.Given.SeizeWorld.{World}
use Rattle.owner_facts.specs.Descends.Numbers.{ahead}
use Rattle.owner_facts.specs.Descends.Owned.{HasOwn, OwnEndingsEnd, OwnEndingsFall, OwnGoes, goes_own, number_of_own, own_number}
use Rattle.owner_facts.proofs.Descends.Points.{To, falls_at}
use Rattle.many_maps.proofs.Given.General.{same_some}

-- a block carries one list
module _ {T : Type 0} (m : Mem T) where
  list_one : (word : ℕ) (xs ys : List ℕ) → ListFrom m word xs → ListFrom m word ys → xs ≡ ys
  list_one word [] [] a b = refl
  list_one word [] (y ∷ ys) a b = absurd (let some = b.1 in let is = b.2 in omega (arith, a, some, is))
  list_one word (x ∷ xs) [] a b = absurd (let some = a.1 in let is = a.2 in omega (arith, b, some, is))
  list_one word (x ∷ xs) (y ∷ ys) a b =
      let same_block : x ≡ y = (let is = a.2 in let is2 = b.2 in omega (arith, is, is2)) in
      let same_next = same_some a.0 b.0 (sym a.3 ∙ ap (λ (z : ℕ). word_at m (Entry z NEXT)) same_block ∙ b.3) in
      ap (λ (z : ℕ). z ∷ xs) same_block ∙ ap (λ (l : List ℕ). y ∷ l) (list_one b.0 xs ys (subst (λ (z : ℕ). ListFrom m z xs) same_next a.4) b.4)

  further_one : (b : ℕ) (field : Option ℕ) (xs ys : List ℕ) → FurtherFrom m b field xs → FurtherFrom m b field ys → xs ≡ ys
  further_one b None xs ys a c = a ∙ sym c
  further_one b (Some field) xs ys (word, there, list) (word2, there2, list2) =
      list_one word2 xs ys (subst (λ (z : ℕ). ListFrom m z xs) (same_some word word2 (sym there ∙ there2)) list) list2

  are_one : (defers : T → Option ℕ) (b : ℕ) (xs ys : List ℕ) → FurtherAre defers m b xs → FurtherAre defers m b ys → xs ≡ ys
  are_one defers b xs ys (value, there, list) (value2, there2, list2) =
      further_one b (defers value2) xs ys (subst (λ (z : T). FurtherFrom m b (defers z) xs) (the value value2 (sym there ∙ there2)) list) list2
    where
      the : (x y : T) → Some x ≡ Some y → x ≡ y
      the x y e = cc e

-- tables that carry the same are reclaimed with the same
tables_one : (table : ℕ → ℕ) (lists lists2 : ℕ → List ℕ) (t tables : ℕ) → ((u : ℕ) → t ≤ u → u < t + tables → lists u ≡ lists2 u) → tables_in table lists true t tables ≡ tables_in table lists2 true t tables
tables_one table lists lists2 t zero same = refl
tables_one table lists lists2 t (suc tables) same =
    let first = same t (omega arith) (omega arith) in
    let later = tables_one table lists lists2 (suc t) tables (λ u l k. same u (omega (arith, l)) (omega (arith, k))) in
    λ i. given_of true (first i) ++ table t ∷ later i

module _ {K V : Type 0} (same : K → K → Bool) (batch_size i : ℕ) (w : World (Node K V)) (f : Finishing K V) (own : OwnEndFacts same batch_size w i f) where
  abbrev Own : World (Node K V) → Finishing K V → Type 0
  Own w2 g = OwnEndFacts same batch_size w2 i g

  -- wherever it stands, its tables carried the same as it began, and so the same is to be reclaimed
  module _ (w2 : World (Node K V)) (e : EndMap) (back : List ℕ) (own2 : Own w2 (record f { machine = e; back = back })) where
    lists_same : (u : ℕ) → f.chart.first ≤ u → u < f.chart.past → own.lists u ≡ own2.lists u
    lists_same u l k =
        are_one f.began.memory deferred_word (f.blocks.table u) (own.lists u) (own2.lists u) (own.stood.owned refl u l k).are (own2.stood.owned refl u l k).are

    all_same : back_of f.setting f.chart f.blocks own2.lists true ≡ back_of f.setting f.chart f.blocks own.lists true
    all_same =
        sym (ap (λ (l : List ℕ). map f.blocks.pair (pairs_of (is_incremental f.setting.mode) f.chart) ++ (l ++ f.setting.counter ∷ []))
        (tables_one f.blocks.table own.lists own2.lists f.chart.first (f.chart.past - f.chart.first) (λ u l k. lists_same u l (omega (arith, l, k)))))

  abbrev Below : (w2 : World (Node K V)) (g : Finishing K V) → Own w2 g → Type 0
  Below w2 g own2 = IsBelow (number_of_own own2.lists g w2.memory) (number_of_own own.lists f w.memory)

  -- where it goes on less is ahead, and where it reclaims a block fewer are to be reclaimed
  goes : (m2 : Mem (Node K V)) (e : EndMap) (w2 : World (Node K V)) (g : Finishing K V) (own2 : Own w2 g) → w2.memory ≡ m2 → g ≡ record f { machine = e }
      → IsBelow (ahead f.chart.past m2 e e.stands) (ahead f.chart.past w.memory f.machine f.machine.stands) → Below w2 g own2
  goes m2 e w2 g own2 memory is less =
      subst (λ (h : Finishing K V). (o : Own w2 h) → Below w2 h o) (sym is)
      (λ o. inr (
        ap (λ (l : List ℕ). length l - length f.back) (all_same w2 e f.back o),
        subst (λ (m : Mem (Node K V)). IsBelow (ahead f.chart.past m e e.stands) (ahead f.chart.past w.memory f.machine f.machine.stands)) (sym memory) less,
      )) own2

  gave : (e : EndMap) (b : ℕ) (w2 : World (Node K V)) (g : Finishing K V) (own2 : Own w2 g) → g ≡ record f { machine = e; back = f.back ++ b ∷ [] }
      → length f.back < length (back_of f.setting f.chart f.blocks own.lists true) → Below w2 g own2
  gave e b w2 g own2 is some =
      subst (λ (h : Finishing K V). (o : Own w2 h) → Below w2 h o) (sym is)
      (λ o. inl (let long = length-append f.back (b ∷ []) in let all = ap length (all_same w2 e (f.back ++ b ∷ []) o) in omega (arith, some, long, all))) own2

  falls : (m2 : Mem (Node K V)) (end : EndMap × Settled (Node K V)) → Steps Took value_at w.memory (end_map_plan f.machine) m2 end
      → To same f.hash own.lawful f.setting f.chart f.blocks own.lists true i f.began own.stood w f.machine own.past f.back own.facts f.machine.stands m2 end
  falls m2 end s = falls_at same f.hash own.lawful f.setting f.chart f.blocks own.lists true i f.began own.stood w f.machine own.past f.back own.facts f.machine.stands own.facts.root
      own.facts.point m2 end s

  pub by_end : (m2 : Mem (Node K V)) (end : EndMap × Settled (Node K V)) → Steps Took value_at w.memory (end_map_plan f.machine) m2 end → (w2 : World (Node K V)) (g : Finishing K V) (own2 : Own w2 g)
      → w2.memory ≡ m2 → goes_own f end g → Below w2 g own2
  by_end m2 (e, settled.Goes) s w2 g own2 memory so = goes m2 e w2 g own2 memory so (falls m2 (e, settled.Goes) s)
  by_end m2 (e, settled.Waits) s w2 g own2 memory so = absurd so
  by_end m2 (e, settled.Gave value) s w2 g own2 memory so = gave e so.0 w2 g own2 so.1 (falls m2 (e, settled.Gave value) s)
  by_end m2 (e, settled.Done) s w2 g own2 memory so = absurd so

module _ {K Q : Type 0} (V : Type 0) (same : K → K → Bool) (asks : Q → K → Bool) (batch_size roots : ℕ) (slot : ℕ → ℕ) (i : ℕ) where
  pub own_endings_fall : OwnEndingsFall V same asks batch_size roots slot i
  own_endings_fall x y (m2, end, s, memory, so) = by_end same batch_size i x.w x.f x.own.facts m2 end s y.w y.f y.own.facts memory so

  -- and so it comes to its end
  pub own_endings_end : OwnEndingsEnd V same asks batch_size roots slot i
  own_endings_end =
      lowered_ends (HasOwn V same asks batch_size roots slot i) (OwnGoes V same asks batch_size roots slot i) (own_number V same asks batch_size roots slot i)
      (λ x y so. (refl, own_endings_fall x y so))
