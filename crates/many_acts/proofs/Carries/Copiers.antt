-- A step of a copier that is none of a row: what it is to hand over it is to hand over still, and the tables that the root has left by it, it is to hand over then.
use Rattle.std.specs.Prelude.{◌*◌, ◌/◌, Some}
use Rattle.std.proofs.Common.{◌≡◌, ℕ, suc, ◌<◌, ◌≤◌, Bool, true, false, cond, ◌⊎◌, inl, inr, refl, arith, ap, sym, subst, ◌∙◌}
use Rattle.std.proofs.lemmas.Bool.{cases_lt}
use Rattle.run_shows.specs.Given.SeizeWordsDeclared.at.At.TheVariants.{Root, Word}
use Rattle.run_shows.specs.Given.SeizeWordsMem.{Mem, Can, Took, value_at, word_at, with_word}
use Rattle.run_shows.specs.Given.SeizeWordsPlan.{Steps}
use Rattle.run_shows.proofs.Given.SeizeWordsOneOwner.Operations.{loaded, exchanged}
use Rattle.run_shows.proofs.Given.SeizeWordsPlans.{steps_as}
use Rattle.run_shows.specs.Given.SeizeSettle.{retiring}
use Rattle.run_shows.specs.Given.SeizeWorld.{World}
use Rattle.run_shows.specs.Given.TablesChunks.{is_incremental}
use Rattle.run_shows.specs.Given.TablesDeclared.node.Node.{Node}
use Rattle.run_shows.specs.Given.TablesDeclared.setting.Setting.{Setting}
use Rattle.run_shows.specs.Given.TablesDeclared.table.Table.{Table}
use Rattle.run_shows.specs.Given.TablesDeclared.table_words.TheConstants.{NEXT}
use Rattle.run_shows.specs.Given.ResizeCopier.{copier_plan, plan_at as copier_plan_at}
use Rattle.run_shows.specs.Given.ResizeCopierPromotes.{promoted, successor_read, also_retired, retiring_table}
use Rattle.run_shows.specs.Given.ResizeCopierStates as copying
use Rattle.run_shows.specs.Given.ResizeDeclared.copier.Copier.{Copier}
use Rattle.run_shows.specs.Given.ResizeDeclared.copier.Copying.{Copying}
use Rattle.run_shows.specs.Given.ResizeDeclared.copier.Copying.TheVariants as copies
use Rattle.run_shows.specs.Given.ResizeDeclared.yielding.Yielding.{Yielding}
use Rattle.run_shows.specs.Given.ResizeDeclared.yielding.Yielding.TheVariants as outcome
use Rattle.run_shows.specs.Given.RawCall.{copied}
use Rattle.run_shows.specs.Given.RawCallPoints.{getting}
use Rattle.run_shows.specs.Given.RawDeclared.machines.call.KeyCall.{KeyCall}
use Rattle.run_shows.specs.Given.RawDeclared.machines.call.Calling.TheVariants as at
use Rattle.run_shows.specs.Given.RuleChart.{Chart}
use Rattle.run_shows.specs.Given.RuleInWorld.{IsMapIn, Moved, SameBlocks}
use Rattle.run_shows.specs.Given.RuleMaps.{IsTable}
use Rattle.run_shows.specs.Given.RuleWords.{Blocks}
use Rattle.run_shows.proofs.Given.RuleWords.LinksSeen.{link_made, root_leads}
use Rattle.run_shows.proofs.Given.RuleWorld.RootSpared.{RootStays}
use Rattle.owner_facts.specs.Given.PointsTold.{IsRowOfCopier}
use Rattle.owner_facts.proofs.Given.PointsBlocking.Successors.{next_read, rest_between}
use Rattle.owner_facts.proofs.Given.PointsSteps.RootSteps.{is_promoting, root_stays}
use Rattle.owner_facts.proofs.Given.LateSamples.Plans.{written}
use Rattle.owner_facts.proofs.Alone.Handed.RootTurns.{IsPromoted, first_moves, first_kept}
use Rattle.many_acts.specs.Carries.Theirs.{IsObligedAt, IsNext, IsAhead, next_of_them}
use Rattle.many_acts.proofs.Carries.Known.{HasCut, KnowsTables, CopierKnows}
use Rattle.run_shows.proofs.Given.General.{some_is as is_some_of}

module _ {K V : Type 0} (hash : K → ℕ) (p : Copier) (m m2 : Mem (Node K V)) (end : Copier × Yielding (Node K V) Table) where
  -- what is due next is due next still
  due_stays : (b : ℕ) (stands : Copying) → (IsRowOfCopier stands → ⊥) → Steps Took value_at m (copier_plan_at hash p stands) m2 end → IsObligedAt p stands b
      → (q : Copier) × (end ≡ (q, outcome.Goes)) × IsObligedAt q q.stands b
  due_stays b copies.Announces row s due = (copying.standing p (copies.Succeeds p.source.link), s.2, due)
  due_stays b (copies.Succeeds table) row s due =
      let d = loaded m (successor_read p table) (Word (table / 2048) NEXT) m2 end s in
      (retiring_table p table (also_retired p d.0), d.3, ap (λ (x : ℕ). retiring p.setting.slot p.setting.batch_size x) due)
  due_stays b (copies.Retires settle rest) row s due = absurd (row tt)
  due_stays b _ row s due = absurd due

  -- where it is to make its target the root it does so, and is to hand tables over from its source on, or all is as it was
  abbrev HasPromoted : Type 0
  HasPromoted =
      (word_at m (Root p.setting.root) ≡ Some p.source.link) × (end ≡ (copying.standing p copies.Announces, outcome.Goes))
      × (m2 ≡ with_word m (Root p.setting.root) p.target.link)

  promotes_or_stays : Steps Took value_at m (copier_plan_at hash p copies.Promotes) m2 end → HasPromoted ⊎ (m2 ≡ m)
  promotes_or_stays s =
      elim (exchanged m (promoted p) (Root p.setting.root) p.source.link p.target.link m2 end s) as (λ _. HasPromoted ⊎ (m2 ≡ m)) [
        | inl d ↦ inl (d.1.0 ∙ ap Some d.1.1, d.3, d.2)
        | inr d ↦ inr d.2
      ]

-- the root's block is the one that its word names
module _ {K V : Type 0} (same : K → K → Bool) (hash : K → ℕ) (setting : Setting) (w : World (Node K V)) (c : Chart K) (blocks : Blocks) (map : IsMapIn same hash setting w c blocks) where
  root_named : (link : ℕ) → 0 < c.past → word_at w.memory (Root setting.root) ≡ Some link → link ≡ blocks.table c.first * 2048
  root_named link some read = (link_made c blocks link c.first (root_leads same hash setting.mode setting.root w.memory c blocks map.map link read) (map.map.rule.common.rooted some)).0

module _ {K V : Type 0} (same : K → K → Bool) (hash : K → ℕ) (setting : Setting) (w : World (Node K V)) (c : Chart K) (blocks : Blocks) (map : IsMapIn same hash setting w c blocks)
    (caller : ℕ) (p : Copier) (knows : CopierKnows same hash w caller setting c blocks p) (m2 : Mem (Node K V)) (end : Copier × Yielding (Node K V) Table) where
  -- it is due next, or ahead of it
  abbrev pub IsItsNext : Copier → ℕ → Type 0
  IsItsNext q b = IsObligedAt q q.stands b ⊎ ((is_incremental setting.mode ≡ false) × IsAhead c.past blocks.table (next_of_them q q.stands) q.target.turn b)

  -- it goes on, and is to hand this block over
  abbrev pub GoesOwing : ℕ → Type 0
  GoesOwing b = (q : Copier) × (end ≡ (q, outcome.Goes)) × IsItsNext q b

  -- It comes to the table behind, which it has read: the one before is due.
  module _ (blocking : is_incremental setting.mode ≡ false) (table x t : ℕ) (is : table ≡ blocks.table x * 2048) (cut : HasCut same hash w caller setting c blocks p x t) where
    made : (u : ℕ) → u < t → u < c.past
    made u low = let there = cut.1.made in omega (arith, there, low)

    turn : p.target.turn ≡ t
    turn = ap (λ (y : Table). y.turn) cut.1.is

    apart : (u v : ℕ) → x ≤ u → u < t → x ≤ v → v < t → blocks.table u ≡ blocks.table v → u ≡ v
    apart u v from before from2 before2 = map.map.shows.tables_apart u v (made u before) (made v before2) (cut.2 u from before).0 (cut.2 v from2 before2).0

    -- the turn of the next one is no other
    next_turn : (s : ℕ) → s < t → IsNext c.past blocks.table table p.target.turn s → s ≡ x
    next_turn s low next = by (cases_lt s x) (cases_lt x s)
      where
        block : blocks.table x ≡ blocks.table s
        block = let a = next.named in omega (arith, a, is)

        by : (s < x) ⊎ (x ≤ s) → (x < s) ⊎ (s ≤ x) → s ≡ x
        by (inl before) _ = absurd (next.last x before (let order = cut.0 in omega (arith, order, turn)) block)
        by (inr from) (inl after) = absurd (let e = apart x s (omega arith) cut.0 from low block in omega (arith, e, after))
        by (inr from) (inr to) = omega (arith, from, to)

    next_then : (rest : ℕ) → suc x < t → rest ≡ blocks.table (suc x) * 2048 → IsNext c.past blocks.table rest p.target.turn (suc x)
    next_then rest more e = record {
      named = e;
      some = (map.map.shows.table_numbers (suc x) (made (suc x) more) (cut.2 (suc x) (omega arith) more).0).0;
      last = λ u after before one.
          let same_turn = apart u (suc x) (omega (arith, after)) (omega (arith, before, turn)) (omega arith) more one in omega (arith, same_turn, after);
      made = let there = cut.1.made in omega (arith, there, turn);
    }

    succeeds_ahead : (b : ℕ) → Steps Took value_at w.memory (copier_plan_at hash p (copies.Succeeds table)) m2 end → IsAhead c.past blocks.table table p.target.turn b → GoesOwing b
    succeeds_ahead b s (first, next, u, from, before, at) = (retiring_table p table (also_retired p d.0), d.3, by (cases_lt x u))
      where
        d : (link : ℕ) × (word_at w.memory (Word (table / 2048) NEXT) ≡ Some link) × (m2 ≡ w.memory) × (end ≡ (retiring_table p table (also_retired p link), outcome.Goes))
        d = loaded w.memory (successor_read p table) (Word (table / 2048) NEXT) m2 end s

        link_is : d.0 ≡ blocks.table (suc x) * 2048
        link_is = next_read same hash caller setting w c blocks map p knows.0 x t cut.0 cut.1 cut.2 table is d.0 d.1

        low : u < t
        low = omega (arith, before, turn)

        first_is : first ≡ x
        first_is = next_turn first (omega (arith, from, low)) next

        by : (x < u) ⊎ (u ≤ x) → IsItsNext (retiring_table p table (also_retired p d.0)) b
        by (inl after) =
            let more : suc x < t = omega (arith, after, low) in
            let rest = rest_between same hash caller setting w c blocks map p knows.0 x t cut.0 cut.1 cut.2 table is d.0 link_is more in
            inr (blocking, (suc x, next_then (also_retired p d.0) more rest, u, omega (arith, after), before, at))
        by (inr to) =
            let it : u ≡ x = omega (arith, to, from, first_is) in
            inl (ap (λ (y : ℕ). retiring p.setting.slot p.setting.batch_size y) (is ∙ ap (λ (y : ℕ). y * 2048) (ap blocks.table (sym it) ∙ sym at)))

  ahead_stays : is_incremental setting.mode ≡ false → (b : ℕ) (stands : Copying) → (IsRowOfCopier stands → ⊥) → KnowsTables same hash w caller setting c blocks p stands
      → Steps Took value_at w.memory (copier_plan_at hash p stands) m2 end → IsAhead c.past blocks.table (next_of_them p stands) p.target.turn b → GoesOwing b
  ahead_stays blocking b copies.Announces row tables s ahead = (copying.standing p (copies.Succeeds p.source.link), s.2, inr (blocking, ahead))
  ahead_stays blocking b (copies.Succeeds table) row (x, t, is, cut) s ahead = succeeds_ahead blocking table x t is cut b s ahead
  ahead_stays blocking b (copies.Retires settle rest) row tables s ahead = absurd (row tt)
  ahead_stays blocking b _ row tables s (t, next, u, from, before, at) = absurd (let named = next.named in let some = next.some in omega (arith, named, some))

  -- what it is to hand over it is to hand over still
  pub copier_stays : (IsRowOfCopier p.stands → ⊥) → Steps Took value_at w.memory (copier_plan hash p) m2 end → (b : ℕ) → IsItsNext p b → GoesOwing b
  copier_stays row s b (inl due) = let k = due_stays hash p w.memory m2 end b p.stands row s due in (k.0, k.1, inl k.2)
  copier_stays row s b (inr (blocking, ahead)) = ahead_stays blocking b p.stands row (knows.1 blocking) s ahead

  -- what the root has left by the step
  module _ (w2 : World (Node K V)) (c2 : Chart K) (blocks2 : Blocks) (map2 : IsMapIn same hash setting w2 c2 blocks2)
      {mover : ℕ} (moved : Moved same hash setting.mode mover c c2) (same_blocks : SameBlocks c blocks blocks2) (memory : w2.memory ≡ m2) where
    stays : RootStays setting.root w.memory m2 → c2.first ≡ c.first
    stays root = first_kept same hash setting w w2 c c2 blocks blocks2 map map2 same_blocks moved (subst (λ (n : Mem (Node K V)). RootStays setting.root w.memory n) (sym memory) root)

    module _ (t : ℕ) (from : c.first ≤ t) (to : t < c2.first) where
      none_left : c2.first ≡ c.first → ⊥
      none_left same_first = omega (arith, same_first, from, to)

      is_promoted : IsPromoted same hash setting c c2
      is_promoted = by (first_moves same hash setting c c2 moved)
        where
          by : (c2.first ≡ c.first) ⊎ IsPromoted same hash setting c c2 → IsPromoted same hash setting c c2
          by (inl e) = absurd (none_left e)
          by (inr is) = is

      module _ (promoted_it : HasPromoted hash p w.memory m2 end) where
        named : p.source.link ≡ blocks.table c.first * 2048
        named =
            let there = is_promoted.1 in
            root_named same hash setting w c blocks map p.source.link (omega (arith, there)) (subst (λ (x : Setting). word_at w.memory (Root x.root) ≡ Some p.source.link) knows.0 promoted_it.0)

        root_then : word_at w2.memory (Root setting.root) ≡ Some p.target.link
        root_then =
            subst (λ (x : Setting). word_at w2.memory (Root x.root) ≡ Some p.target.link) knows.0
            (ap (λ (n : Mem (Node K V)). word_at n (Root p.setting.root)) (memory ∙ promoted_it.2)
            ∙ written w.memory (Root p.setting.root) p.target.link (is_some_of _ _ promoted_it.0))

        -- its target is the root
        target_is : (y : ℕ) → IsTable c blocks p.target y → y ≡ c2.first
        target_is y target =
            let there = is_promoted.1 in let past = is_promoted.2 in
            let kept = same_blocks.tables y target.made target.known in
            let block = kept.0 in
            let link = ap (λ (x : Table). x.link) target.is in
            let then = root_named same hash setting w2 c2 blocks2 map2 p.target.link (omega (arith, there, past)) root_then in
            let old = target.made in
            map2.map.shows.tables_apart y c2.first (omega (arith, old, past)) (omega (arith, there, past)) kept.1
            (map2.map.shows.linked c2.first (omega arith) (omega (arith, there, past))) (omega (arith, block, link, then))

        ahead_left : (x y : ℕ) → IsTable c blocks p.source x → IsTable c blocks p.target y → IsAhead c.past blocks.table p.source.link p.target.turn (blocks.table t)
        ahead_left x y source target = (c.first, next, t, from, high, refl)
          where
            turn : p.target.turn ≡ c2.first
            turn = ap (λ (z : Table). z.turn) target.is ∙ target_is y target

            high : t < p.target.turn
            high = omega (arith, to, turn)

            made : c.first < c.past
            made = let low = is_promoted.0 in let there = is_promoted.1 in omega (arith, low, there)

            next : IsNext c.past blocks.table p.source.link p.target.turn c.first
            next = record {
              named = named;
              some = (map.map.shows.table_numbers c.first made (map.map.shows.linked c.first (omega arith) made)).0;
              last = λ u after before one.
                  let there = is_promoted.1 in
                  let past : u < c.past = omega (arith, before, turn, there) in
                  let e = map.map.shows.tables_apart u c.first past made (map.map.shows.linked u (omega (arith, after)) past) (map.map.shows.linked c.first (omega arith) made) one in
                  omega (arith, e, after);
              made = let there = is_promoted.1 in omega (arith, turn, there);
            }

        -- in incremental mode it is the one table
        one_left : is_incremental setting.mode ≡ true → t ≡ c.first
        one_left bits = let next : c2.first ≡ suc c.first = subst (λ (b : Bool). cond b (c2.first ≡ suc c.first) (Unit {0})) bits is_promoted.3 in omega (arith, next, from, to)

        promotes_left : (b : Bool) → is_incremental setting.mode ≡ b → p.stands ≡ copies.Promotes → GoesOwing (blocks.table t)
        promotes_left true bits is = (copying.standing p copies.Announces, promoted_it.1, inl (named ∙ ap (λ (x : ℕ). blocks.table x * 2048) (sym (one_left bits))))
        promotes_left false blocking is =
            let k = subst (KnowsTables same hash w caller setting c blocks p) is (knows.1 blocking) in
            (copying.standing p copies.Announces, promoted_it.1, inr (blocking, ahead_left k.0 k.1 k.2 k.3))

      -- a copier that is to make its target the root is to hand over what that has left; each other step of one leaves the root
      pub copier_left : (IsRowOfCopier p.stands → ⊥) → Steps Took value_at w.memory (copier_plan hash p) m2 end → GoesOwing (blocks.table t)
      copier_left row s = by p.stands refl (is_promoting p.stands) refl
        where
          any : KeyCall K V Unit
          any = getting p.setting 0 tt

          at_exchange : p.stands ≡ copies.Promotes → HasPromoted hash p w.memory m2 end ⊎ (m2 ≡ w.memory) → GoesOwing (blocks.table t)
          at_exchange is (inl it) = promotes_left it (is_incremental setting.mode) refl is
          at_exchange is (inr e) = absurd (none_left (stays (inl (ap (λ (n : Mem (Node K V)). word_at n (Root setting.root)) e))))

          by : (stands : Copying) → p.stands ≡ stands → (b : Bool) → is_promoting stands ≡ b → GoesOwing (blocks.table t)
          by stands is false other =
              absurd (none_left (stays (root_stays (λ q k. true) same hash any (at.Copies p) (ap is_promoting is ∙ other) row w.memory m2 (copied any end)
              (steps_as (copied any) Can Took value_at w.memory m2 (copier_plan hash p) end s) setting.root)))
          by copies.Promotes is true it =
              at_exchange is (promotes_or_stays hash p w.memory m2 end (subst (λ (x : Copying). Steps Took value_at w.memory (copier_plan_at hash p x) m2 end) is s))
          by _ is true it = absurd (cc it)
