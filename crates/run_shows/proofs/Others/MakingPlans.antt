-- What a step of the making of a map does by one operation, and by which its map stands.
use Rattle.std.specs.Prelude.{◌≡◌, ◌≢◌, ℕ, ◌+◌, ◌-◌, ◌%◌, ◌^◌, ◌<◌, ◌==◌, nat_lt, Bool, true, false, Some, None, Ok, Err, if◌then◌else◌, ◌⊎◌}
use Rattle.std.proofs.Common.{refl, ap, sym, subst, ◌∙◌, arith, inl, inr}
use Rattle.std.proofs.lemmas.Bool.{ne_eqb}
use Rattle.seize_words.specs.declared.at.At.{At}
use Rattle.seize_words.specs.declared.at.At.TheVariants.{Root, Used, Word}
use Rattle.seize_words.specs.declared.fault.Fault.{Fault}
use Rattle.seize_words.specs.declared.fault.Fault.TheVariants.{RootsUsedUp}
use Rattle.seize_words.specs.OneMemory.Mem.{Mem, value_in, value_at, word_at, fresh, block_of, Can, Took}
use Rattle.seize_words.specs.OneMemory.Op.{Op, Out, Load, Store, Swap, Add, Or, Exchange, Make, Take, Rewrite, Room, Exchanged, Made}
use Rattle.seize_words.specs.OneMemory.Plan.{Plan, Turn, Do, May, Ends, plan_as, then_as}
use Rattle.seize_words.specs.OneMemory.Word.{block_in}
use Rattle.seize_words.proofs.OneMemory.OneOwner.AfterWrites.{value_at-with_word, block_of-with_block, block_of-made}
use Rattle.run_effects.proofs.Given.SeizeMemoryWords.Named.{block_there}
use Rattle.seize.specs.World.{World, Making as MadeBy}
use Rattle.seize.specs.declared.advance.Advance.{Advance}
use Rattle.seize.specs.declared.advance.Advance.TheVariants as progress
use Rattle.run_effects.specs.Given.TablesDeclared.node.Node.{Node}
use Rattle.run_effects.specs.Given.TablesDeclared.node.Node.TheVariants as node
use Rattle.run_effects.specs.Given.TablesDeclared.setting.Setting.{Setting}
use Rattle.run_effects.specs.Given.TablesDeclared.table.Table.{Table}
use Rattle.run_effects.specs.Given.TablesDeclared.status.TheConstants.Status.{PROMOTED}
use Rattle.run_effects.specs.Given.ResizeNewMap as new_map
use Rattle.run_effects.specs.Given.ResizeNewTable as new_table
use Rattle.run_effects.specs.Given.ResizeSum as sums
use Rattle.run_effects.specs.Given.ResizeDeclared.new_map.NewMap.{NewMap}
use Rattle.run_effects.specs.Given.ResizeDeclared.new_map.Opening.{Opening}
use Rattle.run_effects.specs.Given.ResizeDeclared.new_map.Opening.TheVariants as at
use Rattle.run_effects.specs.Given.ResizeDeclared.new_table.Making.{Making}
use Rattle.run_effects.specs.Given.ResizeDeclared.new_table.Making.TheVariants as makes
use Rattle.run_effects.specs.Given.ResizeDeclared.new_table.NewTable.{NewTable}
use Rattle.run_effects.specs.Given.ResizeDeclared.sum.Sum.{Sum}
use Rattle.run_effects.specs.Given.ResizeDeclared.sum.Summing.{Summing}
use Rattle.run_effects.specs.Given.ResizeDeclared.sum.Summing.TheVariants as summing
use Rattle.run_effects.specs.Tells.Seen.{word_or, seen_of}
use Rattle.run_effects.specs.ReportingMemory.Tells.{observed_of, StepsObserved}
use Rattle.run_effects.specs.declared.changed.Changed.{Changed}
use Rattle.run_effects.specs.declared.changed.Changed.TheVariants as changed
use Rattle.run_effects.specs.declared.changed.Kind.TheVariants as kind
use Rattle.run_effects.specs.Given.RuleRule.{no_table}
use Rattle.run_effects.proofs.Given.RuleWords.TablesSeen.{block_of_link}
use Rattle.many_maps.specs.Given.PointsFactsTables.{IsOwnTable, IsPlanned, MakingFacts}
use Rattle.many_maps.specs.Given.CallersTogether.{no_blocks}
use Rattle.run_shows.proofs.Others.Outcomes.{told_in}
use Rattle.many_maps.specs.Makings.{OpeningFacts, HasTaken, HasMade}

-- what it leaves of values: all but that of a block that it makes, or takes away
abbrev pub KeepsValues : {T : Type 0} → Mem T → Mem T → Changed → Type 0
KeepsValues m m2 (changed.Made kind x) = (b : ℕ) → b ≢ x → value_at m2 b ≡ value_at m b
KeepsValues m m2 (changed.Took x) = (b : ℕ) → b ≢ x → value_at m2 b ≡ value_at m b
KeepsValues m m2 _ = (b : ℕ) → value_at m2 b ≡ value_at m b

module _ {K V : Type 0} (w : World (Node K V)) (i root : ℕ) where
  -- It writes whether a root is used, words of a block that it has made, and at last its root, which leads to the table that it has made.
  abbrev pub TellsWrite : At → ℕ → ℕ → Type 0
  TellsWrite (Root r) before word = (r ≡ root) × (word_at w.memory (Root root) ≡ Some 0) × (table : Table) × (word ≡ table.link) × IsOwnTable w i table PROMOTED × IsPlanned table 0
  TellsWrite (Used r) before word = Unit {0}
  TellsWrite (Word b field) before word = w.hand b ≡ MadeBy i
  TellsWrite _ before word = ⊥

  abbrev pub TellsMaking : Changed → Type 0
  TellsMaking changed.Nothing = Unit {0}
  TellsMaking (changed.Wrote at before word) = TellsWrite at before word
  TellsMaking (changed.Made kind b) = Unit {0}
  TellsMaking (changed.Unmade kind) = Unit {0}
  TellsMaking (changed.Took b) = Unit {0}
  TellsMaking (changed.Roomed bucket had) = ⊥

  abbrev IsPlain : Op (Node K V) → Type 0
  IsPlain (Load at) = Unit {0}
  IsPlain (Store at word) = (before : ℕ) → TellsWrite at before word
  IsPlain (Exchange at expected word) = (before : ℕ) → TellsWrite at before word
  IsPlain (Make value words) = Unit {0}
  IsPlain (Take b) = Unit {0}
  IsPlain _ = ⊥

  op_says : (m : Mem (Node K V)) (op : Op (Node K V)) (out : Out (Node K V)) → IsPlain op → TellsMaking (observed_of op out (seen_of m op out))
  op_says m (Load at) out is = tt
  op_says m (Store at word) out is = is (word_or (word_at m at))
  op_says m (Swap at word) out is = absurd is
  op_says m (Add at by) out is = absurd is
  op_says m (Or at bits) out is = absurd is
  op_says m (Exchange at expected word) (Exchanged (Ok before)) is = is before
  op_says m (Exchange at expected word) _ is = tt
  op_says m (Make value words) (Made (Ok b)) is = tt
  op_says m (Make value words) (Made (Err back)) is = tt
  op_says m (Make value words) _ is = tt
  op_says m (Take b) out is = tt
  op_says m (Rewrite b value) out is = absurd is
  op_says m (Room bucket) out is = absurd is

  op_keeps : (m m2 : Mem (Node K V)) (op : Op (Node K V)) (out : Out (Node K V)) → IsPlain op → Can m op → Took m op out m2 → KeepsValues m m2 (observed_of op out (seen_of m op out))
  op_keeps m m2 (Load at) out is can took = λ b. ap (λ (n : Mem (Node K V)). value_at n b) took.1
  op_keeps m m2 (Store at word) out is can took = λ b. ap (λ (n : Mem (Node K V)). value_at n b) took.1 ∙ value_at-with_word m at word b can
  op_keeps m m2 (Swap at word) out is can took = absurd is
  op_keeps m m2 (Add at by) out is can took = absurd is
  op_keeps m m2 (Or at bits) out is can took = absurd is
  op_keeps m m2 (Exchange at expected word) (Exchanged (Ok before)) is can took = λ b. ap (λ (n : Mem (Node K V)). value_at n b) took.1 ∙ value_at-with_word m at word b can
  op_keeps m m2 (Exchange at expected word) (Exchanged (Err before)) is can took = λ b. ap (λ (n : Mem (Node K V)). value_at n b) took.1
  op_keeps m m2 (Exchange at expected word) _ is can took = absurd took.0
  op_keeps m m2 (Make value words) (Made (Ok x)) is can took = λ b ne.
      ap (λ (n : Mem (Node K V)). value_at n b) took.1 ∙ ap value_in (block_of-made m value words x b took.0.0)
      ∙ ap (λ q. value_in (if q then Some (fresh value words) else block_of m b)) (ne_eqb b x ne)
  op_keeps m m2 (Make value words) (Made (Err back)) is can took = λ b. ap (λ (n : Mem (Node K V)). value_at n b) took.1
  op_keeps m m2 (Make value words) _ is can took = absurd took.0
  op_keeps m m2 (Take x) out is can took = λ b ne.
      let y = block_there m x can in
      ap (λ (n : Mem (Node K V)). value_at n b) took.1 ∙ ap value_in (block_of-with_block m x b y.0 None y.1) ∙ ap (λ q. value_in (if q then None else block_of m b)) (ne_eqb b x ne)
  op_keeps m m2 (Rewrite b value) out is can took = absurd is
  op_keeps m m2 (Room bucket) out is can took = absurd is

  abbrev IsPlainPlan : {R : Type 0} → Plan (Node K V) R → Type 0
  IsPlainPlan (Turn rest) = Unit {0}
  IsPlainPlan (Do op rest) = IsPlain op

  plain_as : {A B : Type 0} (f : A → B) (plan : Plan (Node K V) A) → IsPlainPlan plan → IsPlainPlan (plan_as f plan)
  plain_as f (Turn rest) is = tt
  plain_as f (Do op rest) is = is

  plan_says : {R : Type 0} (m m2 : Mem (Node K V)) (told : Changed) (plan : Plan (Node K V) R) (end : R) → StepsObserved K V R m changed.Nothing plan m2 told end → IsPlainPlan plan → TellsMaking told
  plan_says m m2 told (Turn rest) end steps is = subst TellsMaking (sym steps.2) tt
  plan_says m m2 told (Do op rest) end steps is = subst TellsMaking (sym steps.1.1) (op_says m op steps.0 is)

  plan_keeps : {R : Type 0} (m m2 : Mem (Node K V)) (told : Changed) (plan : Plan (Node K V) R) (end : R) → StepsObserved K V R m changed.Nothing plan m2 told end → IsPlainPlan plan → May Can Took value_at m plan → KeepsValues m m2 told
  plan_keeps m m2 told (Turn rest) end steps is can = subst (KeepsValues m m2) (sym steps.2) (λ b. ap (λ (n : Mem (Node K V)). value_at n b) steps.0)
  plan_keeps m m2 told (Do op rest) end steps is can = subst (KeepsValues m m2) (sym steps.1.1) (op_keeps m m2 op steps.0 is can.0 steps.1.0)

module _ {K V : Type 0} (w : World (Node K V)) (i roots : ℕ) (n : NewMap) where
  abbrev NoTable : Making → Type 0
  NoTable p = MakingFacts w i n.setting (no_table {K = K}) no_blocks (Root n.setting.root) 0 p

  abbrev Plain : {R : Type 0} → Plan (Node K V) R → Type 0
  Plain plan = IsPlainPlan w i n.setting.root plan

  sum_plain : (c : Sum) (p : Summing) → Plain (sums.plan_at {T = Node K V} c p)
  sum_plain c (summing.Adds shard total) = tt
  sum_plain c (summing.Over count) = tt

  own_hand : (table : Table) (status : ℕ) → IsOwnTable w i table status → w.hand (block_in table.link) ≡ MadeBy i
  own_hand table status own = ap w.hand (ap block_in own.link ∙ block_of_link own.block) ∙ own.hand

  table_plain : (c : NewTable) → c.link ≡ Root n.setting.root → word_at w.memory (Root n.setting.root) ≡ Some 0 → (p : Making) → NoTable p → Plain (new_table.plan_at {K = K} {V = V} c p)
  table_plain c link_is empty (makes.Sums before reason sum) facts = plain_as w i n.setting.root (new_table.counted c before reason) (sums.sum_plan sum) (sum_plain sum sum.stands)
  table_plain c link_is empty (makes.Makes table) facts = tt
  table_plain c link_is empty (makes.Promotes table) facts = λ before. own_hand table _ facts.0
  table_plain c link_is empty (makes.Links table) facts =
      λ before. subst (λ (a : At). TellsWrite w i n.setting.root a before table.link) (sym link_is) (refl, empty, table, refl, facts.0, facts.1)
  table_plain c link_is empty (makes.Drops table found) facts = tt
  table_plain c link_is empty (makes.Over table) facts = tt
  table_plain c link_is empty (makes.Refused fault) facts = tt

  map_plain : (p : Opening) → OpeningFacts w roots i n p → Plain (new_map.plan_at {K = K} {V = V} n p)
  map_plain at.Takes facts = λ before. tt
  map_plain at.Shards facts = tt
  map_plain (at.Tables making) facts = plain_as w i n.setting.root (new_map.opened n) (new_table.new_table_plan making) (table_plain making facts.2.link_is facts.0.1 making.stands facts.2.point)
  map_plain (at.Unmakes fault) facts = tt
  map_plain (at.Frees fault) facts = λ before. tt
  map_plain at.Over facts = tt
  map_plain (at.Refused fault) facts = tt

  module _ (m m2 : Mem (Node K V)) (told : Changed) where
    abbrev Told : Plan (Node K V) (NewMap × Advance Setting) → NewMap × Advance Setting → Type 0
    Told plan end = StepsObserved K V (NewMap × Advance Setting) m changed.Nothing plan m2 told end

    pub making_tells : (end : NewMap × Advance Setting) → OpeningFacts w roots i n n.stands → Told (new_map.new_map_plan n) end → TellsMaking w i n.setting.root told
    making_tells end facts steps = plan_says w i n.setting.root m m2 told (new_map.new_map_plan n) end steps (map_plain n.stands facts)

    pub making_keeps : (end : NewMap × Advance Setting) → OpeningFacts w roots i n n.stands → May Can Took value_at m (new_map.new_map_plan {K = K} {V = V} n) → Told (new_map.new_map_plan n) end → KeepsValues m m2 told
    making_keeps end facts may steps = plan_keeps w i n.setting.root m m2 told (new_map.new_map_plan n) end steps (map_plain n.stands facts) may

    -- it has its root where it writes it
    no_root : (at : At) (expected word : ℕ) (out : Out (Node K V)) (r before after : ℕ) → (at ≡ Root r → ⊥) → observed_of (Exchange at expected word) out (seen_of m (Exchange at expected word) out) ≡ changed.Wrote (Root r) before after → ⊥
    no_root at expected word (Exchanged (Ok found)) r before after other e = other (cc e)
    no_root at expected word (Exchanged (Err found)) r before after other e = cc e
    no_root at expected word _ r before after other e = cc e

    has_root_at : (p : Opening) (end : NewMap × Advance Setting) → OpeningFacts w roots i n p → Told (new_map.plan_at n p) end → (r before after : ℕ) → told ≡ changed.Wrote (Root r) before after → HasTaken p
    has_root_at at.Takes end facts s r before after is = absurd (no_root (Used n.setting.root) 0 1 s.0 r before after (λ e. cc e) (sym s.1.1 ∙ is))
    has_root_at at.Shards end facts s r before after is = tt
    has_root_at (at.Tables making) end facts s r before after is = tt
    has_root_at (at.Unmakes fault) end facts s r before after is = tt
    has_root_at (at.Frees fault) end facts s r before after is = tt
    has_root_at at.Over end facts s r before after is = absurd facts
    has_root_at (at.Refused fault) end facts s r before after is = absurd facts

    pub has_root : (end : NewMap × Advance Setting) → OpeningFacts w roots i n n.stands → Told (new_map.new_map_plan n) end → (r before after : ℕ) → told ≡ changed.Wrote (Root r) before after → HasTaken n.stands
    has_root end facts steps = has_root_at n.stands end facts steps

    -- The map stands once its counter was made, if it is to have no table, and else once its root is written.
    abbrev pub DoneBy : Setting → Changed → Type 0
    DoneBy setting (changed.Made it x) = (n.len ≡ 0) × (it ≡ kind.Shards) × (setting.counter ≡ x)
    DoneBy setting (changed.Wrote a before word) = HasMade n.stands × (n.len ≢ 0) × (a ≡ Root n.setting.root)
    DoneBy setting _ = ⊥

    module _ (opening : NewMap) (setting : Setting) where
      not_goes : (x : NewMap) → ◌≡◌ {A = NewMap × Advance Setting} (opening, progress.Done setting) (x, progress.Goes) → ⊥
      not_goes x e = (let other : ◌≡◌ {A = Advance Setting} (progress.Done setting) progress.Goes = ap (λ (y : NewMap × Advance Setting). y.1) e in cc other)

      not_refused : (x : NewMap) (fault : Fault) → ◌≡◌ {A = NewMap × Advance Setting} (opening, progress.Done setting) (x, progress.Refused fault) → ⊥
      not_refused x fault e = (let other : ◌≡◌ {A = Advance Setting} (progress.Done setting) (progress.Refused fault) = ap (λ (y : NewMap × Advance Setting). y.1) e in cc other)

      next_not : (q : Bool) (x y : NewMap) (fault : Fault) → ◌≡◌ {A = NewMap × Advance Setting} (opening, progress.Done setting) (if q then (x, progress.Goes) else (y, progress.Refused fault)) → ⊥
      next_not true x y fault e = not_goes x e
      next_not false x y fault e = not_refused y fault e

      makes_not : (c : NewTable) (table : Table) (out : Out (Node K V)) → Ends (value_at m2) (then_as (new_map.opened n) (new_table.made c table out)) (opening, progress.Done setting) → ⊥
      makes_not c table (Made (Ok b)) e = not_goes _ e
      makes_not c table (Made (Err back)) e = not_goes _ e
      makes_not c table _ e = not_goes _ e

      links_so : (c : NewTable) (table : Table) (out : Out (Node K V)) → Ends (value_at m2) (then_as (new_map.opened n) (new_table.linked c table out)) (opening, progress.Done setting)
          → (before : ℕ) × (observed_of (Exchange c.link 0 table.link) out (seen_of m (Exchange c.link 0 table.link) out) ≡ changed.Wrote c.link before table.link)
      links_so c table (Exchanged (Ok before)) e = (before, refl)
      links_so c table (Exchanged (Err found)) e = absurd (not_goes _ e)
      links_so c table _ e = absurd (not_goes _ e)

      table_done : (c : NewTable) → c.link ≡ Root n.setting.root → (p : Making) → NoTable p → Told (plan_as (new_map.opened n) (new_table.plan_at c p)) (opening, progress.Done setting)
          → (before word : ℕ) × (told ≡ changed.Wrote (Root n.setting.root) before word)
      table_done c link_is (makes.Sums before reason sum) facts s = absurd (let l : facts.0.0 < 0 = facts.0.1.made in omega (arith, l))
      table_done c link_is (makes.Makes table) facts s = absurd (makes_not c table s.0 s.2)
      table_done c link_is (makes.Promotes table) facts s = absurd (not_goes _ s.2)
      table_done c link_is (makes.Links table) facts s = let wrote = links_so c table s.0 s.2 in (wrote.0, table.link, s.1.1 ∙ wrote.1 ∙ ap (λ (a : At). changed.Wrote a wrote.0 table.link) link_is)
      table_done c link_is (makes.Drops table found) facts s = absurd (let l : facts.1 < 0 = facts.3 in omega (arith, l))
      table_done c link_is (makes.Over table) facts s = absurd (let l : facts.0 < 0 = facts.2.made in omega (arith, l))
      table_done c link_is (makes.Refused fault) facts s = absurd (not_goes _ s.1)

      takes_not : (out : Out (Node K V)) → Ends (value_at m2) (new_map.taken n out) (opening, progress.Done setting) → ⊥
      takes_not (Exchanged (Ok free)) e = not_goes _ e
      takes_not (Exchanged (Err used)) e = next_not (nat_lt n.setting.root (n.roots - 1)) _ _ _ e
      takes_not _ e = not_goes _ e

      shards_so : (out : Out (Node K V)) → told ≡ observed_of (Make node.Shards ((n.setting.mask + 1) % 2 ^ 64)) out (seen_of m (Make node.Shards ((n.setting.mask + 1) % 2 ^ 64)) out)
          → Ends (value_at m2) (new_map.made n out) (opening, progress.Done setting) → DoneBy setting told
      shards_so (Made (Ok x)) is e = by (n.len == 0) refl e
        where
          by : (q : Bool) → (n.len == 0) ≡ q → ◌≡◌ {A = NewMap × Advance Setting} (opening, progress.Done setting) (if q then new_map.done (record n { setting = new_map.with_counter n.setting x })
              else new_map.goes (record n { setting = new_map.with_counter n.setting x }) (at.Tables (new_table.first_table (new_map.with_counter n.setting x) n.len))) → DoneBy setting told
          by true none f =
              let done : ◌≡◌ {A = Advance Setting} (progress.Done setting) (progress.Done (new_map.with_counter n.setting x)) = ap (λ (y : NewMap × Advance Setting). y.1) f in
              let its : setting ≡ new_map.with_counter n.setting x = cc done in
              subst (DoneBy setting) (sym is) (grind (arith, none), refl, ap (λ (y : Setting). y.counter) its)
          by false none f = absurd (not_goes _ f)
      shards_so (Made (Err back)) is e = absurd (not_goes _ e)
      shards_so _ is e = absurd (not_goes _ e)

      making_done_at : (p : Opening) → n.stands ≡ p → OpeningFacts w roots i n p → Told (new_map.plan_at n p) (opening, progress.Done setting) → DoneBy setting told
      making_done_at at.Takes is facts s = absurd (takes_not s.0 s.2)
      making_done_at at.Shards is facts s = shards_so s.0 s.1.1 s.2
      making_done_at (at.Tables making) is facts s =
          let wrote = table_done making facts.2.link_is making.stands facts.2.point s in
          subst (DoneBy setting) (sym wrote.2) (subst HasMade (sym is) tt, facts.3, refl)
      making_done_at (at.Unmakes fault) is facts s = absurd (not_goes _ s.2)
      making_done_at (at.Frees fault) is facts s = absurd (not_refused _ _ s.2)
      making_done_at at.Over is facts s = absurd facts
      making_done_at (at.Refused fault) is facts s = absurd facts

      pub making_done : OpeningFacts w roots i n n.stands → Told (new_map.new_map_plan n) (opening, progress.Done setting) → DoneBy setting told
      making_done facts steps = making_done_at n.stands refl facts steps

    -- Where it goes on with a counter, it had that one, or has made it now.
    abbrev pub CounterFrom : NewMap → Type 0
    CounterFrom end = (HasMade n.stands × (end.setting ≡ n.setting)) ⊎ (told ≡ changed.Made kind.Shards end.setting.counter)

    opened_setting : (r : NewTable × Advance Table) → (new_map.opened n r).0.setting ≡ n.setting
    opened_setting (making, progress.Goes) = refl
    opened_setting (making, progress.Waits) = refl
    opened_setting (making, progress.Done table) = refl
    opened_setting (making, progress.Refused fault) = refl

    module _ (end : NewMap) (said : Advance Setting) (has : HasMade end.stands) where
      -- it has none where it came to
      none_there : (x : NewMap) (y : Advance Setting) → ◌≡◌ {A = NewMap × Advance Setting} (end, said) (x, y) → (HasMade x.stands → ⊥) → CounterFrom end
      none_there x y e none = absurd (none (subst (λ (z : NewMap). HasMade z.stands) (ap (λ (z : NewMap × Advance Setting). z.0) e) has))

      takes_none : n.stands ≡ at.Takes → (out : Out (Node K V)) → Ends (value_at m2) (new_map.taken n out) (end, said) → CounterFrom end
      takes_none is (Exchanged (Ok free)) e = none_there _ _ e (λ h. h)
      takes_none is (Exchanged (Err used)) e = by (nat_lt n.setting.root (n.roots - 1)) e
        where
          by : (q : Bool) → ◌≡◌ {A = NewMap × Advance Setting} (end, said) (if q then (record n { setting = new_map.at_root n.setting (n.setting.root + 1) }, progress.Goes) else new_map.refused n RootsUsedUp) → CounterFrom end
          by true f = none_there _ _ f (λ h. subst HasMade is h)
          by false f = none_there _ _ f (λ h. h)
      takes_none is _ e = none_there _ _ e (λ h. subst HasMade is h)

      shards_made : n.stands ≡ at.Shards → (out : Out (Node K V)) → told ≡ observed_of (Make node.Shards ((n.setting.mask + 1) % 2 ^ 64)) out (seen_of m (Make node.Shards ((n.setting.mask + 1) % 2 ^ 64)) out)
          → Ends (value_at m2) (new_map.made n out) (end, said) → CounterFrom end
      shards_made is (Made (Ok x)) so e = by (n.len == 0) e
        where
          by : (q : Bool) → ◌≡◌ {A = NewMap × Advance Setting} (end, said) (if q then new_map.done (record n { setting = new_map.with_counter n.setting x })
              else new_map.goes (record n { setting = new_map.with_counter n.setting x }) (at.Tables (new_table.first_table (new_map.with_counter n.setting x) n.len))) → CounterFrom end
          by true f = none_there _ _ f (λ h. h)
          by false f = inr (so ∙ ap (changed.Made kind.Shards) (sym (ap (λ (z : NewMap × Advance Setting). z.0.setting.counter) f)))
      shards_made is (Made (Err back)) so e = none_there _ _ e (λ h. h)
      shards_made is _ so e = none_there _ _ e (λ h. subst HasMade is h)

      counter_at : (p : Opening) → n.stands ≡ p → OpeningFacts w roots i n p → Told (new_map.plan_at n p) (end, said) → CounterFrom end
      counter_at at.Takes is facts s = takes_none is s.0 s.2
      counter_at at.Shards is facts s = shards_made is s.0 s.1.1 s.2
      counter_at (at.Tables making) is facts s =
          let it = told_in m m2 told (new_map.opened n) (new_table.new_table_plan making) (end, said) s in
          inl (subst HasMade (sym is) tt, ap (λ (z : NewMap × Advance Setting). z.0.setting) it.1 ∙ opened_setting it.0)
      counter_at (at.Unmakes fault) is facts s = none_there _ _ s.2 (λ h. h)
      counter_at (at.Frees fault) is facts s = none_there _ _ s.2 (λ h. h)
      counter_at at.Over is facts s = absurd facts
      counter_at (at.Refused fault) is facts s = absurd facts

      pub counter_from : OpeningFacts w roots i n n.stands → Told (new_map.new_map_plan n) (end, said) → CounterFrom end
      counter_from facts steps = counter_at n.stands refl facts steps
