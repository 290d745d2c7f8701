-- The making of a map takes the first root that is free: what is so of it at each point, and after each step.
use Rattle.std.specs.Prelude.{◌≡◌, ◌≢◌, ◌<◌, ◌≤◌, ◌+◌, ◌-◌, ◌%◌, ◌^◌, ◌==◌, ◌||◌, ◌⊎◌, nat_lt, ℕ, Bool, true, false, List, ◌++◌, max, Some, Ok, Err, if◌then◌else◌}
use Rattle.std.proofs.Common.{refl, ap, subst, sym, ◌∙◌, inl, inr, arith}
use Rattle.std.proofs.lemmas.Bool.{cases_eq, cases_lt, eq-eqb, ne_eqb}
use Rattle.std.proofs.lemmas.List.Folds.{list_any-append}
use Rattle.run_schedules.specs.Given.SeizeWordsDeclared.at.At.TheVariants.{Used}
use Rattle.run_schedules.specs.Given.SeizeWordsDeclared.fault.Fault.{Fault}
use Rattle.run_schedules.specs.Given.SeizeWordsDeclared.fault.Fault.TheVariants.{Memory, RootsUsedUp}
use Rattle.run_schedules.specs.Given.SeizeWordsMem.{Mem, value_at, word_at}
use Rattle.run_schedules.specs.Given.SeizeWordsOp.{Out, Found, Stored, Exchanged, Made, Taken, Roomed, Make}
use Rattle.run_schedules.specs.Given.SeizeWordsPlan.{Ends}
use Rattle.run_schedules.proofs.Given.SeizeWordsOneOwner.Operations.{exchanged}
use Rattle.seize.specs.declared.advance.Advance.{Advance}
use Rattle.seize.specs.declared.advance.Advance.TheVariants as progress
use Rattle.papaya_raw.specs.Given.TablesDeclared.node.Node.{Node}
use Rattle.papaya_raw.specs.Given.TablesDeclared.node.Node.TheVariants as node
use Rattle.papaya_raw.specs.Given.TablesDeclared.setting.Setting.{Setting}
use Rattle.papaya_raw.specs.Given.TablesDeclared.table.Table.{Table}
use Rattle.run_effects.specs.Given.ResizeNewMap as new_map
use Rattle.run_effects.specs.Given.ResizeNewTable as new_table
use Rattle.run_effects.specs.Given.ResizeDeclared.new_table.NewTable.{NewTable}
use Rattle.run_effects.specs.Given.ResizeDeclared.new_map.NewMap.{NewMap}
use Rattle.run_effects.specs.Given.ResizeDeclared.new_map.Opening.{Opening}
use Rattle.run_effects.specs.Given.ResizeDeclared.new_map.Opening.TheVariants as opens
use Rattle.run_schedules.specs.declared.effect.Effect.{Effect}
use Rattle.run_schedules.specs.Schedules.InTurn.{has_grown, is_growth}
use Rattle.run_effects.specs.ReportingMemory.Tells.{StepsObserved}
use Rattle.run_effects.specs.declared.changed.Changed.{Changed}
use Rattle.run_effects.specs.declared.changed.Changed.TheVariants as changed
use Rattle.run_effects.specs.Effects.Effects.{effects_of}
use Rattle.run_effects.specs.Effects.Known.{Known}
use Rattle.run_effects.specs.declared.acting.Acting.TheVariants as acts
use Rattle.run_shows.specs.Given.FinishesMakings.{HasTaken}
use Rattle.run_logged.specs.Log.Roots.{AreTaken, FindsRoot, IsFirstFree, with_root}
use Rattle.run_kept.proofs.Told.{told_as, told_back}
use Rattle.run_logged.proofs.Log.MakingTables.{HasAsked, IsFirstMaking, TableThen, begins_first, first_tables_then}
use Rattle.run_shows.proofs.Scenes.Told.{as_step}
use Rattle.run_executor.proofs.Given.MomentsWholeEnds.{one_if as bit}

-- it has taken the first root that was free
abbrev pub HasFound : {T : Type 0} → ℕ → (ℕ → Bool) → Mem T → NewMap → Type 0
HasFound roots taken m n = IsFirstFree roots taken n.setting.root × AreTaken roots (with_root n.setting.root taken) m

-- What is so at each point: it tries one root after another, takes the first one that is free, and gives it up only where memory was refused.
abbrev pub RootSoFar : {T : Type 0} → ℕ → (ℕ → Bool) → Bool → Mem T → NewMap → Opening → Type 0
RootSoFar roots taken grown m n opens.Takes = (n.setting.root < roots) × ((q : ℕ) → q < n.setting.root → taken q ≡ true) × AreTaken roots taken m
RootSoFar roots taken grown m n opens.Shards = HasFound roots taken m n
RootSoFar roots taken grown m n (opens.Tables making) = HasFound roots taken m n × IsFirstMaking making.stands
RootSoFar roots taken grown m n (opens.Unmakes fault) = HasFound roots taken m n × (fault ≡ Memory) × (grown ≡ true)
RootSoFar roots taken grown m n (opens.Frees fault) = HasFound roots taken m n × (fault ≡ Memory) × (grown ≡ true)
RootSoFar roots taken grown m n _ = ⊥

-- the root with which a making goes on
abbrev pub GoesOnWith : NewMap × Advance Setting → ℕ → Type 0
GoesOnWith (n2, progress.Goes) r = n2.setting.root ≡ r
GoesOnWith (n2, _) r = ⊥

module _ {T : Type 0} (roots : ℕ) (m m2 : Mem T) (n : NewMap) where
  -- another root is as it was, unless it goes on with it
  abbrev pub LeavesOthers : NewMap × Advance Setting → Type 0
  LeavesOthers end =
      (r : ℕ) → r < roots → (HasTaken n.stands → r ≢ n.setting.root) → (q : Bool) → word_at m (Used r) ≡ Some (bit q) → (word_at m2 (Used r) ≡ Some (bit q)) ⊎ GoesOnWith end r

  -- its own is taken as it goes on, and with its map, and free once it was refused
  abbrev pub HasItsRoot : NewMap × Advance Setting → Type 0
  HasItsRoot (n2, progress.Goes) = HasTaken n2.stands → word_at m2 (Used n2.setting.root) ≡ Some 1
  HasItsRoot (n2, progress.Done setting) = word_at m2 (Used setting.root) ≡ Some 1
  HasItsRoot (n2, progress.Refused fault) = HasTaken n.stands → word_at m2 (Used n.setting.root) ≡ Some 0
  HasItsRoot (n2, progress.Waits) = Unit {0}

  -- all roots then, where one root is so
  marks : (before after : ℕ → Bool) (root : ℕ) → AreTaken roots before m → word_at m2 (Used root) ≡ Some (bit (after root)) → ((r : ℕ) → r ≢ root → before r ≡ after r)
      → ((r : ℕ) → r < roots → r ≢ root → word_at m (Used r) ≡ Some (bit (before r)) → word_at m2 (Used r) ≡ Some (bit (before r))) → AreTaken roots after m2
  marks before after root are its same others r l = by (cases_eq r root)
    where
      by : (r ≡ root) ⊎ (r ≢ root) → word_at m2 (Used r) ≡ Some (bit (after r))
      by (inl e) = subst (λ (x : ℕ). word_at m2 (Used x) ≡ Some (bit (after x))) (sym e) its
      by (inr ne) = others r l ne (are r l) ∙ ap (λ (q : Bool). Some (bit q)) (same r ne)

its_own : (root : ℕ) (taken : ℕ → Bool) → with_root root taken root ≡ true
its_own root taken = ap (λ (q : Bool). q || taken root) (eq-eqb root root refl)

another : (root : ℕ) (taken : ℕ → Bool) (r : ℕ) → r ≢ root → with_root root taken r ≡ taken r
another root taken r ne = ap (λ (q : Bool). q || taken r) (ne_eqb r root ne)

-- a bit that is read
is_zero : (q : Bool) (w : ℕ) → Some (bit q) ≡ Some w → w ≡ 0 → q ≡ false
is_zero true w e z = absurd (cc (e, z))
is_zero false w e z = refl

is_one : (q : Bool) (w : ℕ) → Some (bit q) ≡ Some w → w ≢ 0 → q ≡ true
is_one true w e z = refl
is_one false w e z = absurd (z (let h : 0 ≡ w = cc e in sym h))

-- with this counter its map is there, or its first table is to be made
abbrev made_with : NewMap → ℕ → Bool → NewMap × Advance Setting
made_with n b q =
    if q then new_map.done (record n { setting = new_map.with_counter n.setting b })
    else new_map.goes (record n { setting = new_map.with_counter n.setting b }) (opens.Tables (new_table.first_table (new_map.with_counter n.setting b) n.len))

module _ {K V : Type 0} (map : ℕ) (known : Known) (roots : ℕ) (taken : ℕ → Bool) (did : List Effect) (m m2 : Mem (Node K V)) (told : Changed) (n : NewMap) where
  abbrev did2 : List Effect
  did2 = did ++ effects_of (acts.Making map) known told

  -- what a step comes to
  abbrev pub RootThen : NewMap × Advance Setting → Type 0
  RootThen (n2, progress.Goes) = (n2.roots ≡ roots) × (max n2.len 8 ≤ 2 ^ 48) × RootSoFar roots taken (has_grown did2) m2 n2 n2.stands
  RootThen (n2, said) = FindsRoot roots taken did2 m2 said

  grown_on : has_grown did ≡ true → has_grown did2 ≡ true
  grown_on was = list_any-append is_growth did (effects_of (acts.Making map) known told) ∙ ap (λ (q : Bool). q || has_grown (effects_of (acts.Making map) known told)) was

  grown_now : HasAsked map known told → has_grown did2 ≡ true
  grown_now is = list_any-append is_growth did (effects_of (acts.Making map) known told) ∙ ap (λ (q : Bool). has_grown did || q) is ∙ either (has_grown did)
    where
      either : (q : Bool) → (q || true) ≡ true
      either true = refl
      either false = refl

  module _ (as_many : n.roots ≡ roots) (small : max n.len 8 ≤ 2 ^ 48) where
    -- where it has found its root, that is so as it goes on with it
    module _ (found : HasFound roots taken m n) (has : HasTaken n.stands) where
      others_on : (end : NewMap × Advance Setting) → LeavesOthers roots m m2 n end → ((r : ℕ) → GoesOnWith end r → r ≡ n.setting.root)
          → (r : ℕ) → r < roots → r ≢ n.setting.root → word_at m (Used r) ≡ Some (bit (with_root n.setting.root taken r)) → word_at m2 (Used r) ≡ Some (bit (with_root n.setting.root taken r))
      others_on end leaves same r l ne is = by (leaves r l (λ _. ne) (with_root n.setting.root taken r) is)
        where
          by : (word_at m2 (Used r) ≡ Some (bit (with_root n.setting.root taken r))) ⊎ GoesOnWith end r → word_at m2 (Used r) ≡ Some (bit (with_root n.setting.root taken r))
          by (inl w) = w
          by (inr goes) = absurd (ne (same r goes))

      found_on : (end : NewMap × Advance Setting) → LeavesOthers roots m m2 n end → ((r : ℕ) → GoesOnWith end r → r ≡ n.setting.root) → word_at m2 (Used n.setting.root) ≡ Some 1 → HasFound roots taken m2 n
      found_on end leaves same its = (
        found.0,
        marks roots m m2 n (with_root n.setting.root taken) (with_root n.setting.root taken) n.setting.root found.1 (its ∙ ap (λ (q : Bool). Some (bit q)) (sym (its_own n.setting.root taken))) (λ r ne. refl)
            (others_on end leaves same),
      )

      given_up : (end : NewMap × Advance Setting) → LeavesOthers roots m m2 n end → ((r : ℕ) → GoesOnWith end r → r ≡ n.setting.root) → word_at m2 (Used n.setting.root) ≡ Some 0 → AreTaken roots taken m2
      given_up end leaves same its =
          marks roots m m2 n (with_root n.setting.root taken) taken n.setting.root found.1 (its ∙ ap (λ (q : Bool). Some (bit q)) (sym found.0.1)) (another n.setting.root taken) (others_on end leaves same)

      -- by what the step came to: it goes on, with the same root,
      goes_then : (stands : Opening) → HasTaken stands → LeavesOthers roots m m2 n (new_map.goes n stands) → HasItsRoot roots m m2 n (new_map.goes n stands) → HasFound roots taken m2 n
      goes_then stands has2 leaves its = found_on (new_map.goes n stands) leaves (λ r e. sym e) (its has2)

      -- is done,
      done_then : (c : NewMap) → c.setting.root ≡ n.setting.root → LeavesOthers roots m m2 n (new_map.done c) → HasItsRoot roots m m2 n (new_map.done c) → RootThen (new_map.done c)
      done_then c same leaves its =
          subst (λ (r : ℕ). IsFirstFree roots taken r × AreTaken roots (with_root r taken) m2) (sym same)
          (found_on (new_map.done c) leaves (λ r none. absurd none) (subst (λ (r : ℕ). word_at m2 (Used r) ≡ Some 1) same its))

      -- or was refused
      refused_then : (fault : Fault) → fault ≡ Memory → has_grown did2 ≡ true → LeavesOthers roots m m2 n (new_map.refused n fault) → HasItsRoot roots m m2 n (new_map.refused n fault)
          → RootThen (new_map.refused n fault)
      refused_then fault is grown leaves its =
          subst (λ (f : Fault). FindsRoot roots taken did2 m2 (progress.Refused f)) (sym is)
          (grown, (n.setting.root, found.0), given_up (new_map.refused n fault) leaves (λ r none. absurd none) (its has))

    -- the next root
    module _ (is : n.stands ≡ opens.Takes) where
      abbrev next : NewMap
      next = record n { setting = new_map.at_root n.setting (n.setting.root + 1) }

      abbrev Next : Bool → Type 0
      Next b = RootThen (if b then (next, progress.Goes) else new_map.refused n RootsUsedUp)

      next_then : n.setting.root < roots → ((q : ℕ) → q < n.setting.root → taken q ≡ true) → taken n.setting.root ≡ true → AreTaken roots taken m2 → RootThen (new_map.next_root n)
      next_then below lower its are = by (cases_lt n.setting.root (n.roots - 1))
        where
          through : (q : ℕ) → q < n.setting.root + 1 → taken q ≡ true
          through q l = elim (cases_eq q n.setting.root) as (λ _. taken q ≡ true) [
            | inl e ↦ ap taken e ∙ its
            | inr ne ↦ lower q (omega (arith, l, ne))
          ]

          so_far : n.setting.root + 1 < roots → RootSoFar roots taken (has_grown did2) m2 next n.stands
          so_far l = subst (RootSoFar roots taken (has_grown did2) m2 next) (sym is) (l, through, are)

          by : (n.setting.root < n.roots - 1) ⊎ (n.roots - 1 ≤ n.setting.root) → RootThen (new_map.next_root n)
          by (inl more) = subst Next (let e : true ≡ nat_lt n.setting.root (n.roots - 1) = grind (arith, more) in e) (as_many, small, so_far (omega (arith, more, as_many)))
          by (inr last) = subst Next (let e : false ≡ nat_lt n.setting.root (n.roots - 1) = grind (arith, last) in e) ((λ q l. through q (omega (arith, l, last, as_many))), are)

      takes_then : (n.setting.root < roots) × ((q : ℕ) → q < n.setting.root → taken q ≡ true) × AreTaken roots taken m → (end : NewMap × Advance Setting)
          → StepsObserved K V (NewMap × Advance Setting) m changed.Nothing (new_map.takes n) m2 told end → LeavesOthers roots m m2 n end → HasItsRoot roots m m2 n end → RootThen end
      takes_then (below, lower, are) end s leaves its =
          elim (exchanged m (new_map.taken n) (Used n.setting.root) 0 1 m2 end (as_step m changed.Nothing (new_map.takes n) m2 told end s)) as (λ _. RootThen end) [
            | inl d ↦
                subst RootThen (sym d.3)
                (as_many, small, ((below, is_zero (taken n.setting.root) d.0 (sym (are n.setting.root below) ∙ d.1.0) d.1.1, lower), found_now (subst (LeavesOthers roots m m2 n) d.3 leaves) (subst (HasItsRoot roots m m2 n) d.3 its)))
            | inr d ↦
                subst RootThen (sym d.3)
                (next_then below lower (is_one (taken n.setting.root) d.0 (sym (are n.setting.root below) ∙ d.1.0) d.1.1) (subst (λ (x : Mem (Node K V)). AreTaken roots taken x) (sym d.2) are))
          ]
        where
          not_taken : HasTaken n.stands → ⊥
          not_taken has = subst HasTaken is has

          found_now : LeavesOthers roots m m2 n (new_map.goes n opens.Shards) → HasItsRoot roots m m2 n (new_map.goes n opens.Shards) → AreTaken roots (with_root n.setting.root taken) m2
          found_now leaves its =
              marks roots m m2 n taken (with_root n.setting.root taken) n.setting.root are (its tt ∙ ap (λ (q : Bool). Some (bit q)) (sym (its_own n.setting.root taken)))
              (λ r ne. sym (another n.setting.root taken r ne)) (λ r l ne is_so. but_it r ne (taken r) (leaves r l (λ has. absurd (not_taken has)) (taken r) is_so))
            where
              but_it : (r : ℕ) → r ≢ n.setting.root → (q : Bool) → (word_at m2 (Used r) ≡ Some (bit q)) ⊎ (n.setting.root ≡ r) → word_at m2 (Used r) ≡ Some (bit q)
              but_it r ne q (inl w) = w
              but_it r ne q (inr e) = absurd (ne (sym e))

    module _ (stands : Opening) (is : n.stands ≡ stands) (has : HasTaken n.stands) (found : HasFound roots taken m n) where
      -- the counter is made, or was refused
      shards_then : stands ≡ opens.Shards → (end : NewMap × Advance Setting) → (out : Out (Node K V)) → told ≡ told_as m (Make node.Shards ((n.setting.mask + 1) % 2 ^ 64)) out
          → Ends (value_at m2) (new_map.made n out) end → LeavesOthers roots m m2 n end → HasItsRoot roots m m2 n end → RootThen end
      shards_then at end out is_told ends leaves its = by out is_told ends
        where
          -- as if nothing had come of it
          same_point : end ≡ (n, progress.Goes) → RootThen end
          same_point e =
              subst RootThen (sym e) (
                as_many,
                small,
                subst (RootSoFar roots taken (has_grown did2) m2 n) (sym (is ∙ at))
                    (found_on found has (n, progress.Goes) (subst (LeavesOthers roots m m2 n) e leaves) (λ r same. sym same) (subst (HasItsRoot roots m m2 n) e its has)),
              )

          with_block : (b : ℕ) → end ≡ new_map.with_shards (record n { setting = new_map.with_counter n.setting b }) → RootThen end
          with_block b e =
              subst RootThen (sym e)
              (two (n.len == 0) (subst (LeavesOthers roots m m2 n) e leaves) (subst (HasItsRoot roots m m2 n) e its))
            where
              two : (q : Bool) → LeavesOthers roots m m2 n (made_with n b q) → HasItsRoot roots m m2 n (made_with n b q) → RootThen (made_with n b q)
              two true leaves2 its2 = done_then found has (record n { setting = new_map.with_counter n.setting b }) refl leaves2 its2
              two false leaves2 its2 = (as_many, small, (found_on found has (made_with n b false) leaves2 (λ r same. sym same) (its2 tt), begins_first (new_map.with_counter n.setting b) n.len small))

          by : (o : Out (Node K V)) → told ≡ told_as m (Make node.Shards ((n.setting.mask + 1) % 2 ^ 64)) o → Ends (value_at m2) (new_map.made n o) end → RootThen end
          by (Found word) t e = same_point e
          by Stored t e = same_point e
          by (Exchanged word) t e = same_point e
          by (Made (Ok b)) t e = with_block b e
          by (Made (Err back)) t e =
              subst RootThen (sym e) (
                as_many,
                small,
                (
                  goes_then found has (opens.Frees Memory) tt (subst (LeavesOthers roots m m2 n) e leaves) (subst (HasItsRoot roots m m2 n) e its),
                  refl,
                  grown_now (subst (HasAsked map known) (sym t) refl),
                ),
              )
          by (Taken value) t e = same_point e
          by (Roomed roomed) t e = same_point e

      -- a step of the making of its table
      opened_then : (e : NewTable × Advance Table) → TableThen map known told e → (end : NewMap × Advance Setting) → end ≡ new_map.opened n e → LeavesOthers roots m m2 n end
          → HasItsRoot roots m m2 n end → RootThen end
      opened_then (t, progress.Goes) so end e leaves its =
          subst RootThen (sym e)
          (as_many, small, (goes_then found has (opens.Tables t) tt (subst (LeavesOthers roots m m2 n) e leaves) (subst (HasItsRoot roots m m2 n) e its), so))
      opened_then (t, progress.Waits) so end e leaves its = absurd so
      opened_then (t, progress.Done table) so end e leaves its =
          subst RootThen (sym e) (done_then found has n refl (subst (LeavesOthers roots m m2 n) e leaves) (subst (HasItsRoot roots m m2 n) e its))
      opened_then (t, progress.Refused fault) so end e leaves its =
          subst RootThen (sym e)
          (as_many, small, (goes_then found has (opens.Unmakes fault) tt (subst (LeavesOthers roots m m2 n) e leaves) (subst (HasItsRoot roots m m2 n) e its), so.0, grown_now so.1))

    point_then : (stands : Opening) → n.stands ≡ stands → RootSoFar roots taken (has_grown did) m n stands → (end : NewMap × Advance Setting)
        → StepsObserved K V (NewMap × Advance Setting) m changed.Nothing (new_map.plan_at n stands) m2 told end → LeavesOthers roots m m2 n end → HasItsRoot roots m m2 n end → RootThen end
    point_then opens.Takes is so end s leaves its = takes_then is so end s leaves its
    point_then opens.Shards is so end s leaves its = shards_then opens.Shards is (subst HasTaken (sym is) tt) so refl end s.0 s.1.1 s.2 leaves its
    point_then (opens.Tables making) is so end s leaves its =
        let b = told_back (new_map.opened n) m m2 changed.Nothing told (new_table.new_table_plan making) end s in
        opened_then (opens.Tables making) is (subst HasTaken (sym is) tt) so.0 b.0 (first_tables_then map known m m2 told making so.1 b.0 b.1) end b.2 leaves its
    point_then (opens.Unmakes fault) is so end s leaves its =
        subst RootThen (sym s.2)
        (as_many, small, (goes_then so.0 (subst HasTaken (sym is) tt) (opens.Frees fault) tt (subst (LeavesOthers roots m m2 n) s.2 leaves) (subst (HasItsRoot roots m m2 n) s.2 its), so.1, grown_on so.2))
    point_then (opens.Frees fault) is so end s leaves its =
        subst RootThen (sym s.2)
        (refused_then so.0 (subst HasTaken (sym is) tt) fault so.1 (grown_on so.2) (subst (LeavesOthers roots m m2 n) s.2 leaves) (subst (HasItsRoot roots m m2 n) s.2 its))
    point_then opens.Over is so end s leaves its = absurd so
    point_then (opens.Refused fault) is so end s leaves its = absurd so

    -- so is it after each step
    pub root_then : RootSoFar roots taken (has_grown did) m n n.stands → (end : NewMap × Advance Setting)
        → StepsObserved K V (NewMap × Advance Setting) m changed.Nothing (new_map.new_map_plan n) m2 told end → LeavesOthers roots m m2 n end → HasItsRoot roots m m2 n end → RootThen end
    root_then so end s leaves its = point_then n.stands refl so end s leaves its
