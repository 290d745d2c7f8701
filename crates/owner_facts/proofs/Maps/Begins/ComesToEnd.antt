-- The beginning of a map comes to an end: each step that goes on leads to a later root, or to a later point.
use Rattle.std.specs.Prelude.{◌≡◌, ℕ, ◌+◌, ◌-◌, ◌/◌, ◌%◌, ◌^◌, ◌<◌, ◌==◌, Bool, true, false, max, nat_le, nat_lt, if◌then◌else◌, [], ◌∷◌, Result, Ok, Err}
use Rattle.std.proofs.Common.{refl, sym, subst, inl, inr, arith}
use Rattle.std.proofs.lemmas.Bool.{ltb-true}
use Rattle.many_maps.specs.Given.SeizeWordsMem.{Mem, Took, value_at}
use Rattle.many_maps.specs.Given.SeizeWordsPlan.{Now, Steps}
use Rattle.many_maps.specs.Given.SeizeWordsDeclared.at.At.{At}
use Rattle.many_maps.specs.Given.SeizeWordsDeclared.at.At.TheVariants.{Root, Used, Slot, Entry, Word}
use Rattle.many_maps.specs.Given.SeizeWordsDeclared.fault.Fault.{Fault}
use Rattle.many_maps.specs.Given.SeizeWordsDeclared.fault.Fault.TheVariants.{Capacity, RootsUsedUp}
use Rattle.many_maps.proofs.Given.SeizeWordsOneOwner.Operations.{stored, exchanged, made as make_made, taken}
use Rattle.many_maps.proofs.Given.SeizeRuleRows.Leaving.{steps_back}
use Rattle.many_maps.specs.Given.SeizeDeclared.advance.Advance.{Advance}
use Rattle.many_maps.specs.Given.SeizeDeclared.advance.Advance.TheVariants as progress
use Rattle.many_maps.specs.Given.TablesLengths.{next_len, next_limit, next_turn}
use Rattle.many_maps.specs.Given.ResizeNewTable.{planned, goes, counted, following, making_of, making_first, after_making, with_block, first_table, made, linked, other, plan_at, new_table_plan}
use Rattle.many_maps.specs.Given.ResizeNewMap as map
use Rattle.many_maps.specs.Given.TablesProbes.{limit_of}
use Rattle.many_maps.specs.Given.ResizeSum.{sum_plan}
use Rattle.many_maps.specs.Given.TablesDeclared.lengths.Reason.{Reason}
use Rattle.many_maps.specs.Given.TablesDeclared.node.Node.{Node}
use Rattle.many_maps.specs.Given.TablesDeclared.node.Node.TheVariants as node
use Rattle.many_maps.specs.Given.TablesDeclared.setting.Setting.{Setting}
use Rattle.many_maps.specs.Given.TablesDeclared.status.TheConstants.Status.{PROMOTED}
use Rattle.many_maps.specs.Given.TablesDeclared.table.Table.{Table}
use Rattle.many_maps.specs.Given.TablesDeclared.table_words.TheConstants.{STATUS, PLACES}
use Rattle.many_maps.specs.Given.ResizeDeclared.sum.Sum.{Sum}
use Rattle.many_maps.specs.Given.ResizeDeclared.new_table.NewTable.{NewTable}
use Rattle.many_maps.specs.Given.ResizeDeclared.new_table.Making.{Making}
use Rattle.many_maps.specs.Given.ResizeDeclared.new_table.Making.TheVariants as at
use Rattle.many_maps.specs.Given.ResizeDeclared.new_map.NewMap.{NewMap}
use Rattle.many_maps.specs.Given.ResizeDeclared.new_map.Opening.{Opening}
use Rattle.many_maps.specs.Given.ResizeDeclared.new_map.Opening.TheVariants as opens
use Rattle.many_maps.specs.Given.PointsMeasuresTables.{shards_left}
use Rattle.many_maps.proofs.Given.PointsMaking.EndsSum.{sum_lowers}
use Rattle.owner_facts.specs.Maps.EndingsBegins.{NewMapGoes, BeginningsEnd, BeginningsLeaveLess}
use Rattle.owner_facts.specs.Maps.MeasuresBegins.{making_left, new_map_left, opening_left}
use Rattle.owner_facts.proofs.Maps.Begins.MachinesEnd.{lowered_ends}

-- what follows a counting is a later point
following_left : (reason : Reason) (before : Table) (len : ℕ) (turn : Result ℕ Fault) → making_left (following reason before len turn) < 5
following_left reason before len (Ok turn) = either (nat_le len (2 ^ 48)) (planned len (next_limit reason before.len before.limit len) turn)
  where
    either : (few : Bool) (table : Table) → making_left (if few then at.Makes table else at.Refused Capacity) < 5
    either true table = omega arith
    either false table = omega arith
following_left reason before len (Err fault) = omega arith

making_of_left : (reason : Reason) (before : Table) (len : Result ℕ Fault) → making_left (making_of reason before len) < 5
making_of_left reason before (Ok len) = following_left reason before (max len 8) (next_turn before.turn)
making_of_left reason before (Err fault) = omega arith

-- a first table is made at once
first_left : (len : ℕ) → making_left (making_first len) < 5
first_left len = by (nat_le len (2 ^ 48)) (planned len (limit_of len) 0)
  where
    by : (few : Bool) (table : Table) → making_left (if few then at.Makes table else at.Refused Capacity) < 5
    by true table = omega arith
    by false table = omega arith

-- and what follows the making itself
made_left : (link : At) (table : Table) → making_left (after_making link table) < 4
made_left (Root root) table = omega arith
made_left (Used root) table = omega arith
made_left (Slot slot field) table = omega arith
made_left (Entry block field) table = omega arith
made_left (Word block field) table = omega arith

module _ {K V : Type 0} (m : Mem (Node K V)) (n : NewTable) where
  -- if the step of a making goes on, less is left than where it stood
  abbrev Lowers : Making → NewTable × Advance Table → Type 0
  Lowers stands end = end.1 ≡ progress.Goes → making_left end.0.stands < making_left stands

  lowers_counted : (before : Table) (reason : Reason) (sum sum2 : Sum) (p : Advance ℕ)
      → (p ≡ progress.Goes → shards_left sum2.setting.mask sum2.stands < shards_left sum.setting.mask sum.stands)
      → Lowers (at.Sums before reason sum) (counted n before reason (sum2, p))
  lowers_counted before reason sum sum2 progress.Goes below goes = let l = below refl in omega (arith, l)
  lowers_counted before reason sum sum2 progress.Waits below goes = absurd (cc goes)
  lowers_counted before reason sum sum2 (progress.Done count) below goes =
      let l = making_of_left reason before (next_len reason before.len count n.setting.initial) in
      omega (arith, l)
  lowers_counted before reason sum sum2 (progress.Refused fault) below goes = absurd (cc goes)

  fewer : (sum : Sum) (m2 : Mem (Node K V)) (end : Sum × Advance ℕ) → Steps Took value_at m (sum_plan sum) m2 end → end.1 ≡ progress.Goes
      → shards_left end.0.setting.mask end.0.stands < shards_left sum.setting.mask sum.stands
  fewer sum m2 end s goes = elim (sum_lowers m sum m2 end s goes) as (λ _. shards_left end.0.setting.mask end.0.stands < shards_left sum.setting.mask sum.stands) [
    | inl l ↦ l
    | inr k ↦ absurd k.1
  ]

  lowers_at : (stands : Making) (m2 : Mem (Node K V)) (end : NewTable × Advance Table) → Steps Took value_at m (plan_at n stands) m2 end → Lowers stands end
  lowers_at (at.Sums before reason sum) m2 end s =
      let b = steps_back (counted n before reason) m m2 (sum_plan sum) end s in
      subst (λ e. Lowers (at.Sums before reason sum) e) (sym b.2) (lowers_counted before reason sum b.0.0 b.0.1 (fewer sum m2 b.0 b.1))
  lowers_at (at.Makes table) m2 end s =
      elim (make_made m (made n table) (node.Table table.len table.limit table.turn) ((table.len + PLACES) % 2 ^ 64) m2 end s) as (λ _. Lowers (at.Makes table) end) [
        | inl d ↦ subst (λ e. Lowers (at.Makes table) e) (sym d.3) (λ goes. made_left n.link (with_block table d.0))
        | inr d ↦ subst (λ e. Lowers (at.Makes table) e) (sym d.3) (λ goes. absurd (cc goes))
      ]
  lowers_at (at.Promotes table) m2 end s =
      let d = stored m (λ out. Now (goes n (at.Links table))) (Word (table.link / 2048) STATUS) PROMOTED m2 end s in
      subst (λ e. Lowers (at.Promotes table) e) (sym d.1) (λ goes. omega arith)
  lowers_at (at.Links table) m2 end s =
      elim (exchanged m (linked n table) n.link 0 table.link m2 end s) as (λ _. Lowers (at.Links table) end) [
        | inl d ↦ subst (λ e. Lowers (at.Links table) e) (sym d.3) (λ goes. absurd (cc goes))
        | inr d ↦ subst (λ e. Lowers (at.Links table) e) (sym d.3) (λ goes. omega arith)
      ]
  lowers_at (at.Drops table found) m2 end s =
      let d = taken m (λ out. other n found) (table.link / 2048) m2 end s in
      subst (λ e. Lowers (at.Drops table found) e) (sym d.3.2) (λ goes. absurd (cc goes))
  lowers_at (at.Over table) m2 end s = subst (λ e. Lowers (at.Over table) e) (sym s.1) (λ goes. absurd (cc goes))
  lowers_at (at.Refused fault) m2 end s = subst (λ e. Lowers (at.Refused fault) e) (sym s.1) (λ goes. absurd (cc goes))

module _ {K V : Type 0} (m : Mem (Node K V)) (n : NewMap) where
  -- the same of the beginning of a map
  abbrev LowersMap : Opening → NewMap × Advance Setting → Type 0
  LowersMap stands end = end.1 ≡ progress.Goes → new_map_left end.0 < opening_left n.roots n.setting.root stands

  next_lowers : n.stands ≡ opens.Takes → LowersMap opens.Takes (map.next_root n)
  next_lowers here = by (nat_lt n.setting.root (n.roots - 1)) refl
    where
      by : (more : Bool) → nat_lt n.setting.root (n.roots - 1) ≡ more
          → LowersMap opens.Takes (if more then (record n { setting = map.at_root n.setting (n.setting.root + 1) }, progress.Goes) else map.refused n RootsUsedUp)
      by true e = λ goes.
          subst (λ (o : Opening). opening_left n.roots (n.setting.root + 1) o < opening_left n.roots n.setting.root opens.Takes) (sym here)
          (let l = ltb-true n.setting.root (n.roots - 1) e in omega (arith, l))
      by false e = λ goes. absurd (cc goes)

  shards_lowers : (s : Setting) → LowersMap opens.Shards (map.with_shards (record n { setting = s }))
  shards_lowers s = by (n.len == 0)
    where
      by : (none : Bool) → LowersMap opens.Shards (if none then map.done (record n { setting = s }) else map.goes (record n { setting = s }) (opens.Tables (first_table s n.len)))
      by true goes = absurd (cc goes)
      by false goes = let l = first_left (max n.len 8) in omega (arith, l)

  opened_lowers : (making making2 : NewTable) (p : Advance Table) → (p ≡ progress.Goes → making_left making2.stands < making_left making.stands)
      → LowersMap (opens.Tables making) (map.opened n (making2, p))
  opened_lowers making making2 progress.Goes below goes = let l = below refl in omega (arith, l)
  opened_lowers making making2 progress.Waits below goes = absurd (cc goes)
  opened_lowers making making2 (progress.Done table) below goes = absurd (cc goes)
  opened_lowers making making2 (progress.Refused fault) below goes = omega arith

  map_lowers_at : (stands : Opening) → n.stands ≡ stands → (m2 : Mem (Node K V)) (end : NewMap × Advance Setting) → Steps Took value_at m (map.plan_at n stands) m2 end → LowersMap stands end
  map_lowers_at opens.Takes here m2 end s =
      elim (exchanged m (map.taken n) (Used n.setting.root) 0 1 m2 end s) as (λ _. LowersMap opens.Takes end) [
        | inl d ↦ subst (λ e. LowersMap opens.Takes e) (sym d.3) (λ goes. omega arith)
        | inr d ↦ subst (λ e. LowersMap opens.Takes e) (sym d.3) (next_lowers here)
      ]
  map_lowers_at opens.Shards here m2 end s =
      elim (make_made m (map.made n) node.Shards ((n.setting.mask + 1) % 2 ^ 64) m2 end s) as (λ _. LowersMap opens.Shards end) [
        | inl d ↦ subst (λ e. LowersMap opens.Shards e) (sym d.3) (shards_lowers (map.with_counter n.setting d.0))
        | inr d ↦ subst (λ e. LowersMap opens.Shards e) (sym d.3) (λ goes. omega arith)
      ]
  map_lowers_at (opens.Tables making) here m2 end s =
      let b = steps_back (map.opened n) m m2 (new_table_plan making) end s in
      subst (λ e. LowersMap (opens.Tables making) e) (sym b.2) (opened_lowers making b.0.0 b.0.1 (lowers_at m making making.stands m2 b.0 b.1))
  map_lowers_at (opens.Unmakes fault) here m2 end s =
      let d = taken m (λ out. Now (map.goes n (opens.Frees fault))) n.setting.counter m2 end s in
      subst (λ e. LowersMap (opens.Unmakes fault) e) (sym d.3) (λ goes. omega arith)
  map_lowers_at (opens.Frees fault) here m2 end s =
      let d = stored m (λ out. Now (map.refused n fault)) (Used n.setting.root) 0 m2 end s in
      subst (λ e. LowersMap (opens.Frees fault) e) (sym d.1) (λ goes. absurd (cc goes))
  map_lowers_at opens.Over here m2 end s = subst (λ e. LowersMap opens.Over e) (sym s.1) (λ goes. absurd (cc goes))
  map_lowers_at (opens.Refused fault) here m2 end s = subst (λ e. LowersMap (opens.Refused fault) e) (sym s.1) (λ goes. absurd (cc goes))

-- a step that goes on leaves less
new_map_lowers : {K V : Type 0} (m : Mem (Node K V)) (n : NewMap) (m2 : Mem (Node K V)) (end : NewMap × Advance Setting) → Steps Took value_at m (map.new_map_plan n) m2 end
    → end.1 ≡ progress.Goes → new_map_left end.0 < new_map_left n
new_map_lowers m n m2 end s goes = map_lowers_at m n n.stands refl m2 end s goes

pub beginnings_end : (K V : Type 0) → BeginningsEnd K V
beginnings_end K V =
    lowered_ends NewMap (NewMapGoes K V) (λ n. new_map_left n ∷ []) (λ n n2 s. (refl, inl (new_map_lowers s.0 n s.1 (n2, progress.Goes) s.2 refl)))

pub beginnings_leave_less : (K V : Type 0) → BeginningsLeaveLess K V
beginnings_leave_less K V n n2 s = new_map_lowers s.0 n s.1 (n2, progress.Goes) s.2 refl
