-- While the making of a map has made no table yet, its steps link none and store nothing.
use Rattle.std.specs.Prelude.{◌+◌, ◌%◌, ◌^◌, Ok, Err, Option, if◌then◌else◌}
use Rattle.std.proofs.Common.{◌≡◌, ℕ, Bool, true, false, List, [], ◌∷◌, refl, ap, sym, subst}
use Rattle.run_schedules.specs.Given.SeizeWordsMem.{Mem, value_at}
use Rattle.run_schedules.specs.Given.SeizeWordsOp.{Op, Out, Found, Stored, Exchanged, Made, Taken, Roomed, Exchange, Make}
use Rattle.run_schedules.specs.Given.SeizeWordsPlan.{Ends as EndsSo, plan_as}
use Rattle.run_schedules.specs.Given.SeizeWordsDeclared.at.At.TheVariants.{Root, Used, Slot, Entry, Word}
use Rattle.seize.specs.declared.advance.Advance.{Advance}
use Rattle.seize.specs.declared.advance.Advance.TheVariants as progress
use Rattle.map_tables.specs.declared.node.Node.{Node}
use Rattle.map_tables.specs.declared.node.Node.TheVariants as node
use Rattle.map_tables.specs.declared.setting.Setting.{Setting}
use Rattle.map_tables.specs.declared.table.Table.{Table as Planned}
use Rattle.map_tables.specs.declared.table_words.TheConstants.{PLACES}
use Rattle.map_tables.specs.declared.lengths.Reason.{Reason}
use Rattle.run_kept.specs.Given.ResizeNewMap as new_map
use Rattle.run_finds.specs.Given.ResizeNewTable as new_table
use Rattle.run_finds.specs.Given.ResizeSum as sums
use Rattle.run_finds.specs.Given.ResizeDeclared.new_map.NewMap.{NewMap}
use Rattle.run_finds.specs.Given.ResizeDeclared.new_map.Opening.{Opening}
use Rattle.run_finds.specs.Given.ResizeDeclared.new_map.Opening.TheVariants as openings
use Rattle.run_finds.specs.Given.ResizeDeclared.new_table.NewTable.{NewTable}
use Rattle.run_finds.specs.Given.ResizeDeclared.new_table.Making.{Making}
use Rattle.run_finds.specs.Given.ResizeDeclared.new_table.Making.TheVariants as makes
use Rattle.run_finds.specs.Given.ResizeDeclared.sum.Sum.{Sum}
use Rattle.run_finds.specs.Given.ResizeDeclared.sum.Summing.{Summing}
use Rattle.run_finds.specs.Given.ResizeDeclared.sum.Summing.TheVariants as summing
use Rattle.run_finds.specs.Given.TellsSeen.{seen_of}
use Rattle.run_finds.specs.Given.TellerTells.{StepsObserved, observed_of}
use Rattle.run_kept.specs.Given.EffectsDeclared.changed.Changed.{Changed}
use Rattle.run_kept.specs.Given.EffectsDeclared.changed.Changed.TheVariants as changed
use Rattle.run_kept.specs.Given.EffectsDeclared.changed.Kind.{Kind}
use Rattle.run_kept.specs.Given.EffectsDeclared.changed.Kind.TheVariants as kind
use Rattle.run_schedules.specs.declared.effect.Effect.{Effect}
use Rattle.run_schedules.specs.declared.effect.Effect.TheVariants as effect
use Rattle.run_schedules.specs.declared.effect.Growth.TheVariants.{ABlock, ABucket}
use Rattle.run_kept.specs.Given.EffectsEffects.{effects_of, made_by, pair_taken, table_taken, taken_by}
use Rattle.run_kept.specs.Given.EffectsKnown.{Known}
use Rattle.run_kept.specs.Given.EffectsDeclared.acting.Acting.{Acting}
use Rattle.run_kept.specs.Given.EffectsDeclared.acting.Acting.TheVariants as acting
use Rattle.run_kept.specs.Given.EffectsDeclared.role.Role.{Role}
use Rattle.run_kept.specs.Given.EffectsDeclared.role.Role.TheVariants as role
use Rattle.many_acts.proofs.Given.OthersOutcomes.{told_in}
use Rattle.play_lists.specs.Played.Play.{has_root}
use Rattle.play_lists.proofs.Agrees.Elsewhere.{AllLinkElsewhere}
use Rattle.play_lists.proofs.Agrees.Fresh.{ActsElsewhere, AnyTable}

-- the making of a table, or of a map, that stands here has made none yet, or never will
abbrev pub has_none : Making → Bool
has_none (makes.Promotes table) = false
has_none (makes.Links table) = false
has_none (makes.Drops table found) = false
has_none (makes.Over table) = false
has_none _ = true

abbrev pub is_bare : Opening → Bool
is_bare (openings.Tables making) = has_none making.stands
is_bare openings.Over = false
is_bare _ = true

-- without a root it has none
pub rootless_bare : (stands : Opening) → has_root stands ≡ false → is_bare stands ≡ true
rootless_bare openings.Takes none = refl
rootless_bare (openings.Refused fault) none = refl
rootless_bare openings.Shards none = refl
rootless_bare (openings.Tables making) none = absurd (cc none)
rootless_bare (openings.Unmakes fault) none = refl
rootless_bare (openings.Frees fault) none = refl
rootless_bare openings.Over none = absurd (cc none)

-- no word was written but that of a root's use
abbrev pub WritesNone : Changed → Type 0
WritesNone (changed.Wrote (Used r) old new) = Unit {0}
WritesNone (changed.Wrote at old new) = ⊥
WritesNone told = Unit {0}

-- A step that writes none stores nothing, and links nothing, whoever acts.
module _ (n : ℕ) (acted : Option ℕ) (who : Acting) (known : Known) where
  abbrev Spares : List Effect → Type 0
  Spares effects = ActsElsewhere n acted effects × AllLinkElsewhere n AnyTable effects

  made_spares : (k : Kind) → Spares (effect.Asked ABlock ∷ made_by who k)
  made_spares kind.Pair = ((tt, (tt, tt)), (tt, (tt, tt)))
  made_spares (kind.Table len limit turn) = ((tt, (tt, tt)), (tt, (tt, tt)))
  made_spares kind.Shards = ((tt, tt), (tt, tt))

  pair_spares : (w : Acting) (k : ℕ) → Spares (pair_taken w k ∷ [])
  pair_spares (acting.Ending map) k = ((tt, tt), (tt, tt))
  pair_spares (acting.Call i map) k = ((tt, tt), (tt, tt))
  pair_spares (acting.Making map) k = ((tt, tt), (tt, tt))
  pair_spares acting.Row k = ((tt, tt), (tt, tt))

  taken_spares : (r : Role) → Spares (taken_by who r)
  taken_spares (role.OwnPair c) = ((tt, tt), (tt, tt))
  taken_spares (role.OwnTable turn shape) = ((tt, tt), (tt, tt))
  taken_spares (role.Pair k) = pair_spares who k
  taken_spares (role.Table t len) = by who
    where
      by : (w : Acting) → Spares (table_taken w t ∷ [])
      by (acting.Ending map) = ((tt, tt), (tt, tt))
      by (acting.Call i map) = ((tt, tt), (tt, tt))
      by (acting.Making map) = ((tt, tt), (tt, tt))
      by acting.Row = ((tt, tt), (tt, tt))
  taken_spares role.Free = (tt, tt)
  taken_spares (role.Counter map) = (tt, tt)

  rooms_spare : (q : Bool) → Spares (if q then [] else effect.Asked ABucket ∷ [])
  rooms_spare true = (tt, tt)
  rooms_spare false = ((tt, tt), (tt, tt))

  pub spares : (told : Changed) → WritesNone told → Spares (effects_of who known told)
  spares changed.Nothing writes = (tt, tt)
  spares (changed.Wrote (Used r) old new) writes = (tt, tt)
  spares (changed.Wrote (Root r) old new) writes = absurd writes
  spares (changed.Wrote (Slot s field) old new) writes = absurd writes
  spares (changed.Wrote (Entry b field) old new) writes = absurd writes
  spares (changed.Wrote (Word b field) old new) writes = absurd writes
  spares (changed.Made k b) writes = made_spares k
  spares (changed.Unmade k) writes = ((tt, tt), (tt, tt))
  spares (changed.Took b) writes = taken_spares (known.roles b)
  spares (changed.Roomed bucket had) writes = rooms_spare _

-- a table that is made goes on without one, or is refused
abbrev IsBareTable : NewTable × Advance Planned → Type 0
IsBareTable (n, progress.Goes) = has_none n.stands ≡ true
IsBareTable (n, progress.Waits) = has_none n.stands ≡ true
IsBareTable (n, progress.Done table) = ⊥
IsBareTable (n, progress.Refused fault) = Unit {0}

-- so it is where the map has none
bare_below : (c : NewMap) (x : NewTable × Advance Planned) → is_bare (new_map.opened c x).0.stands ≡ true → IsBareTable x
bare_below c (n, progress.Goes) bare = bare
bare_below c (n, progress.Waits) bare = bare
bare_below c (n, progress.Done table) bare = absurd (cc bare)
bare_below c (n, progress.Refused fault) bare = tt

-- what is told of an operation
module _ {K V : Type 0} (m : Mem (Node K V)) where
  abbrev told_as : Op (Node K V) → Out (Node K V) → Changed
  told_as op out = observed_of op out (seen_of m op out)

  takes_root : (r old new : ℕ) (out : Out (Node K V)) → WritesNone (told_as (Exchange (Used r) old new) out)
  takes_root r old new (Exchanged (Ok word)) = tt
  takes_root r old new (Exchanged (Err word)) = tt
  takes_root r old new (Found word) = tt
  takes_root r old new Stored = tt
  takes_root r old new (Made made) = tt
  takes_root r old new (Taken value) = tt
  takes_root r old new (Roomed roomed) = tt

  makes_one : (value : Node K V) (words : ℕ) (out : Out (Node K V)) → WritesNone (told_as (Make value words) out)
  makes_one value words (Made (Ok b)) = tt
  makes_one value words (Made (Err back)) = tt
  makes_one value words (Found word) = tt
  makes_one value words Stored = tt
  makes_one value words (Exchanged found) = tt
  makes_one value words (Taken taken) = tt
  makes_one value words (Roomed roomed) = tt

-- Where the making has made no table after a step, it had made none before, and the step writes none.
module _ {K V : Type 0} (m m2 : Mem (Node K V)) (told : Changed) where
  so_told : (x : Changed) → told ≡ x → WritesNone x → WritesNone told
  so_told x is so = subst WritesNone (sym is) so

  module _ (n : NewTable) where
    abbrev AtTable : Making → Type 0
    AtTable stands = (has_none stands ≡ true) × WritesNone told

    sums_write : (before : Planned) (reason : Reason) (sum : Sum) (at : Summing) (end : NewTable × Advance Planned)
        → StepsObserved K V (NewTable × Advance Planned) m changed.Nothing (plan_as (new_table.counted n before reason) (sums.plan_at sum at)) m2 told end → WritesNone told
    sums_write before reason sum (summing.Adds shard total) end s = so_told _ s.1.1 tt
    sums_write before reason sum (summing.Over count) end s = so_told _ s.2 tt

    links_has : (table : Planned) (out : Out (Node K V)) (end : NewTable × Advance Planned) → n.stands ≡ makes.Links table → EndsSo (value_at m2) (new_table.linked n table out) end → IsBareTable end → ⊥
    links_has table (Exchanged (Ok empty)) end is ends bare = subst IsBareTable ends bare
    links_has table (Exchanged (Err found)) end is ends bare = cc (subst IsBareTable ends bare)
    links_has table (Found word) end is ends bare = cc (subst IsBareTable ends bare, ap has_none is)
    links_has table Stored end is ends bare = cc (subst IsBareTable ends bare, ap has_none is)
    links_has table (Made made) end is ends bare = cc (subst IsBareTable ends bare, ap has_none is)
    links_has table (Taken value) end is ends bare = cc (subst IsBareTable ends bare, ap has_none is)
    links_has table (Roomed roomed) end is ends bare = cc (subst IsBareTable ends bare, ap has_none is)

    table_writes : (stands : Making) → n.stands ≡ stands → (end : NewTable × Advance Planned)
        → StepsObserved K V (NewTable × Advance Planned) m changed.Nothing (new_table.plan_at n stands) m2 told end → IsBareTable end → AtTable stands
    table_writes (makes.Sums before reason sum) is end s bare = (refl, sums_write before reason sum sum.stands end s)
    table_writes (makes.Makes table) is end s bare = (refl, so_told _ s.1.1 (makes_one m (node.Table table.len table.limit table.turn) ((table.len + PLACES) % 2 ^ 64) s.0))
    table_writes (makes.Promotes table) is end s bare = absurd (cc (subst IsBareTable s.2 bare))
    table_writes (makes.Links table) is end s bare = absurd (links_has table s.0 end is s.2 bare)
    table_writes (makes.Drops table found) is end s bare = absurd (subst IsBareTable s.2.2 bare)
    table_writes (makes.Over table) is end s bare = absurd (subst IsBareTable s.1 bare)
    table_writes (makes.Refused fault) is end s bare = (refl, so_told _ s.2 tt)

  module _ (c : NewMap) where
    abbrev BareAfter : NewMap × Advance Setting → Type 0
    BareAfter end = is_bare end.0.stands ≡ true

    map_writes : (stands : Opening) → c.stands ≡ stands → (end : NewMap × Advance Setting)
        → StepsObserved K V (NewMap × Advance Setting) m changed.Nothing (new_map.plan_at c stands) m2 told end → BareAfter end → (is_bare stands ≡ true) × WritesNone told
    map_writes openings.Takes is end s bare = (refl, so_told _ s.1.1 (takes_root m c.setting.root 0 1 s.0))
    map_writes openings.Shards is end s bare = (refl, so_told _ s.1.1 (makes_one m node.Shards ((c.setting.mask + 1) % 2 ^ 64) s.0))
    map_writes (openings.Tables making) is end s bare =
        let x = told_in m m2 told (new_map.opened c) (new_table.new_table_plan making) end s in
        table_writes making making.stands refl x.0 x.2 (bare_below c x.0 (subst BareAfter x.1 bare))
    map_writes (openings.Unmakes fault) is end s bare = (refl, so_told _ s.1.1 tt)
    map_writes (openings.Frees fault) is end s bare = (refl, so_told _ s.1.1 tt)
    map_writes openings.Over is end s bare = absurd (cc (subst BareAfter s.1 bare, ap is_bare is))
    map_writes (openings.Refused fault) is end s bare = (refl, so_told _ s.2 tt)

    pub bare_writes : (end : NewMap × Advance Setting) → StepsObserved K V (NewMap × Advance Setting) m changed.Nothing (new_map.new_map_plan c) m2 told end → is_bare end.0.stands ≡ true
        → (is_bare c.stands ≡ true) × WritesNone told
    bare_writes end s bare = map_writes c.stands refl end s bare
