-- What each step of a copier leaves of the blocks, where it begins no row of the collector.
use Rattle.std.specs.Prelude.{◌≡◌, ℕ, Bool}
use Rattle.std.proofs.Common.{refl, sym, subst}
use Rattle.map_rule.specs.Given.SeizeWordsDeclared.at.At.{At}
use Rattle.map_rule.specs.Given.SeizeWordsMem.{Mem, Can, Took, value_at}
use Rattle.map_rule.specs.Given.SeizeWordsPlan.{May, Steps}
use Rattle.map_rule.proofs.Given.SeizeWordsPlans.{may_as}
use Rattle.papaya_raw.specs.Given.SeizeWorld.{World}
use Rattle.papaya_raw.specs.Given.SeizeDeclared.advance.Advance.{Advance}
use Rattle.papaya_raw.specs.Given.SeizeDeclared.advance.Advance.TheVariants as progress
use Rattle.map_rule.proofs.Given.SeizeRuleRows.Leaving.{steps_back}
use Rattle.map_rule.specs.Given.ResizeCopier.{plan_at, copier_plan}
use Rattle.map_rule.specs.Given.ResizeCopierFurther.{grown, remade}
use Rattle.map_rule.specs.Given.ResizeNewTable.{new_table_plan}
use Rattle.papaya_raw.specs.Given.TablesDeclared.node.Node.{Node}
use Rattle.map_rule.specs.Given.ResizeDeclared.yielding.Yielding.{Yielding}
use Rattle.map_rule.specs.Given.ResizeDeclared.yielding.Yielding.TheVariants as outcome
use Rattle.papaya_raw.specs.Given.TablesDeclared.setting.Setting.{Setting}
use Rattle.papaya_raw.specs.Given.TablesDeclared.table.Table.{Table}
use Rattle.map_rule.specs.Given.ResizeDeclared.copier.Copier.{Copier}
use Rattle.map_rule.specs.Given.ResizeDeclared.copier.Copying.{Copying as Point}
use Rattle.map_rule.specs.Given.ResizeDeclared.copier.Copying.TheVariants as at
use Rattle.map_rule.specs.Given.ResizeDeclared.new_table.NewTable.{NewTable}
use Rattle.map_rule.specs.Chart.{Chart}
use Rattle.map_rule.specs.Words.{Blocks}
use Rattle.map_facts.specs.FactsTables.{NewTableFacts}
use Rattle.map_facts.specs.FactsCopies.{CopyingFacts}
use Rattle.map_facts.specs.FactsCopiesBlocking.{CopyingFactsBlocking}
use Rattle.map_facts.specs.Told.{IsRowOfCopier}
use Rattle.map_facts.specs.Made.{IsMadeByCopier}
use Rattle.map_facts.proofs.Values.Kept.{plain_keeps}
use Rattle.map_facts.proofs.Values.Left.{Leaves, leaves_same, leaves_as}
use Rattle.map_facts.proofs.Values.Making.{MadeAfter, IsLinkedNow, making_leaves}
use Rattle.map_facts.proofs.Values.Copying.{CopierMadeNone, none_made_by_copier, none_refusing, IsPlainPoint, none_at, plain_at}

-- the block of the table that is left to be linked, after a step
abbrev pub MadeByCopierAfter : {N : Type 0} → Copier × Yielding N Table → ℕ → Type 0
MadeByCopierAfter (p, outcome.Goes) b = IsMadeByCopier p.stands b
MadeByCopierAfter (p, outcome.Waits) b = IsMadeByCopier p.stands b
MadeByCopierAfter (p, outcome.Gave value) b = IsMadeByCopier p.stands b
MadeByCopierAfter (p, outcome.Done table) b = ⊥
MadeByCopierAfter (p, outcome.Refused fault) b = ⊥

none_after : {N : Type 0} (end : Copier × Yielding N Table) → CopierMadeNone end.0.stands → (b : ℕ) → MadeByCopierAfter end b → ⊥
none_after (p, outcome.Goes) none b h = none_made_by_copier p.stands none b h
none_after (p, outcome.Waits) none b h = none_made_by_copier p.stands none b h
none_after (p, outcome.Gave value) none b h = none_made_by_copier p.stands none b h
none_after (p, outcome.Done table) none b h = h
none_after (p, outcome.Refused fault) none b h = h

module _ (K V : Type 0) (p : Copier) (word code : ℕ) where
  grown_to : (e : NewTable × Advance Table) (b : ℕ) → MadeAfter e b → MadeByCopierAfter (grown {K = K} {V = V} p word code e) b
  grown_to (n, progress.Goes) b h = h
  grown_to (n, progress.Waits) b h = h
  grown_to (n, progress.Done table) b h = absurd h
  grown_to (n, progress.Refused fault) b h = absurd h

  grown_of : (e : NewTable × Advance Table) (b : ℕ) → MadeByCopierAfter (grown {K = K} {V = V} p word code e) b → MadeAfter e b
  grown_of (n, progress.Goes) b h = h
  grown_of (n, progress.Waits) b h = h
  grown_of (n, progress.Done table) b h = h
  grown_of (n, progress.Refused fault) b h = none_after (grown {K = K} {V = V} p word code (n, progress.Refused fault)) (none_refusing p word fault) b h

module _ (K V : Type 0) (p : Copier) where
  remade_to : (e : NewTable × Advance Table) (b : ℕ) → MadeAfter e b → MadeByCopierAfter (remade {K = K} {V = V} p e) b
  remade_to (n, progress.Goes) b h = h
  remade_to (n, progress.Waits) b h = h
  remade_to (n, progress.Done table) b h = absurd h
  remade_to (n, progress.Refused fault) b h = absurd h

  remade_of : (e : NewTable × Advance Table) (b : ℕ) → MadeByCopierAfter (remade {K = K} {V = V} p e) b → MadeAfter e b
  remade_of (n, progress.Goes) b h = h
  remade_of (n, progress.Waits) b h = h
  remade_of (n, progress.Done table) b h = h
  remade_of (n, progress.Refused fault) b h = h

module _ {K V : Type 0} (w : World (Node K V)) (caller : ℕ) (setting : Setting) (c : Chart K) (blocks : Blocks) where
  -- what is known of the table that is being made, if one is
  abbrev pub MakesTable : Point → Type 0
  MakesTable (at.Grows word code making) = (link : At) × (turn : ℕ) × NewTableFacts w caller setting c blocks link turn making
  MakesTable (at.Remakes making) = (link : At) × (turn : ℕ) × NewTableFacts w caller setting c blocks link turn making
  MakesTable _ = Unit {0}

  module _ (hash : K → ℕ) (m2 : Mem (Node K V)) (p : Copier) (end : Copier × Yielding (Node K V) Table) where
    abbrev Left : (ℕ → Type 0) → Type 0
    Left Mine = Leaves w.memory m2 Mine (MadeByCopierAfter end) (IsLinkedNow w caller setting c blocks m2)

    plain_leaves : (stands : Point) → p.stands ≡ stands → IsPlainPoint stands → May Can Took value_at w.memory (plan_at {V = V} hash p stands)
        → Steps Took value_at w.memory (plan_at hash p stands) m2 end → Left (IsMadeByCopier stands)
    plain_leaves stands is plain may s =
        let at_it = plain_at V hash p stands plain in
        leaves_same w.memory m2 (IsMadeByCopier stands) (MadeByCopierAfter end) (IsLinkedNow w caller setting c blocks m2) (plain_keeps w.memory m2 (plan_at hash p stands) end at_it.0 may s)
        (λ b h. absurd (none_made_by_copier stands at_it.1 b h))
        (λ b h. absurd (none_after end (none_at hash w.memory m2 p end (subst CopierMadeNone (sym is) at_it.1) stands plain s) b h))

    leaves_at : (stands : Point) → p.stands ≡ stands → MakesTable stands → (IsRowOfCopier stands → ⊥) → May Can Took value_at w.memory (plan_at {V = V} hash p stands)
        → Steps Took value_at w.memory (plan_at hash p stands) m2 end → Left (IsMadeByCopier stands)
    leaves_at (at.Grows word code making) is f none may s =
        let d = steps_back (grown p word code) w.memory m2 (new_table_plan making) end s in
        subst (λ (e : Copier × Yielding (Node K V) Table). Leaves w.memory m2 (IsMadeByCopier (at.Grows word code making)) (MadeByCopierAfter e) (IsLinkedNow w caller setting c blocks m2)) (sym d.2)
        (leaves_as w.memory m2 (IsMadeByCopier (at.Grows word code making)) (MadeAfter d.0) (IsLinkedNow w caller setting c blocks m2)
        (IsMadeByCopier (at.Grows word code making)) (MadeByCopierAfter (grown {K = K} {V = V} p word code d.0))
        (λ b h. h) (λ b h. h) (grown_to K V p word code d.0) (grown_of K V p word code d.0)
        (making_leaves w caller setting c blocks m2 f.0 f.1 making f.2 d.0 (may_as (grown p word code) Can Took value_at w.memory (new_table_plan making) may) d.1))
    leaves_at (at.Remakes making) is f none may s =
        let d = steps_back (remade p) w.memory m2 (new_table_plan making) end s in
        subst (λ (e : Copier × Yielding (Node K V) Table). Leaves w.memory m2 (IsMadeByCopier (at.Remakes making)) (MadeByCopierAfter e) (IsLinkedNow w caller setting c blocks m2)) (sym d.2)
        (leaves_as w.memory m2 (IsMadeByCopier (at.Remakes making)) (MadeAfter d.0) (IsLinkedNow w caller setting c blocks m2)
        (IsMadeByCopier (at.Remakes making)) (MadeByCopierAfter (remade {K = K} {V = V} p d.0))
        (λ b h. h) (λ b h. h) (remade_to K V p d.0) (remade_of K V p d.0)
        (making_leaves w caller setting c blocks m2 f.0 f.1 making f.2 d.0 (may_as (remade p) Can Took value_at w.memory (new_table_plan making) may) d.1))
    leaves_at (at.Retires settle rest) is f none may s = absurd (none tt)
    leaves_at at.Begins is f none may s = plain_leaves at.Begins is tt may s
    leaves_at at.Follows is f none may s = plain_leaves at.Follows is tt may s
    leaves_at at.Asks is f none may s = plain_leaves at.Asks is tt may s
    leaves_at at.Sees is f none may s = plain_leaves at.Sees is tt may s
    leaves_at at.Claims is f none may s = plain_leaves at.Claims is tt may s
    leaves_at at.Marks is f none may s = plain_leaves at.Marks is tt may s
    leaves_at (at.Probes word code table probe) is f none may s = plain_leaves (at.Probes word code table probe) is tt may s
    leaves_at (at.Puts word code table probe) is f none may s = plain_leaves (at.Puts word code table probe) is tt may s
    leaves_at (at.Covers word) is f none may s = plain_leaves (at.Covers word) is tt may s
    leaves_at (at.Passes word code table) is f none may s = plain_leaves (at.Passes word code table) is tt may s
    leaves_at at.Aborts is f none may s = plain_leaves at.Aborts is tt may s
    leaves_at at.Replaces is f none may s = plain_leaves at.Replaces is tt may s
    leaves_at at.Counts is f none may s = plain_leaves at.Counts is tt may s
    leaves_at (at.Tallies word fault) is f none may s = plain_leaves (at.Tallies word fault) is tt may s
    leaves_at (at.Unmarks word fault) is f none may s = plain_leaves (at.Unmarks word fault) is tt may s
    leaves_at (at.Unclaims fault) is f none may s = plain_leaves (at.Unclaims fault) is tt may s
    leaves_at at.Promotes is f none may s = plain_leaves at.Promotes is tt may s
    leaves_at at.Announces is f none may s = plain_leaves at.Announces is tt may s
    leaves_at (at.Succeeds table) is f none may s = plain_leaves (at.Succeeds table) is tt may s
    leaves_at at.Over is f none may s = plain_leaves at.Over is tt may s
    leaves_at (at.Refused fault) is f none may s = plain_leaves (at.Refused fault) is tt may s

    pub copier_leaves : MakesTable p.stands → (IsRowOfCopier p.stands → ⊥) → May Can Took value_at w.memory (copier_plan {V = V} hash p)
        → Steps Took value_at w.memory (copier_plan hash p) m2 end → Left (IsMadeByCopier p.stands)
    copier_leaves f none may s = leaves_at p.stands refl f none may s

  module _ (same : K → K → Bool) (hash : K → ℕ) (p : Copier) where
    -- in incremental mode, and in blocking mode
    pub makes_table : (stands : Point) → CopyingFacts same hash w caller setting c blocks p stands → MakesTable stands
    makes_table (at.Grows word code making) f = (_, _, f.9)
    makes_table (at.Remakes making) f = absurd f
    makes_table at.Begins f = tt
    makes_table at.Follows f = tt
    makes_table at.Asks f = tt
    makes_table at.Sees f = tt
    makes_table at.Claims f = tt
    makes_table at.Marks f = tt
    makes_table (at.Probes word code table probe) f = tt
    makes_table (at.Puts word code table probe) f = tt
    makes_table (at.Covers word) f = tt
    makes_table (at.Passes word code table) f = tt
    makes_table at.Aborts f = tt
    makes_table at.Replaces f = tt
    makes_table at.Counts f = tt
    makes_table (at.Tallies word fault) f = tt
    makes_table (at.Unmarks word fault) f = tt
    makes_table (at.Unclaims fault) f = tt
    makes_table at.Promotes f = tt
    makes_table at.Announces f = tt
    makes_table (at.Succeeds table) f = tt
    makes_table (at.Retires settle rest) f = tt
    makes_table at.Over f = tt
    makes_table (at.Refused fault) f = tt

    pub makes_table_blocking : (stands : Point) → CopyingFactsBlocking same hash w caller setting c blocks p stands → MakesTable stands
    makes_table_blocking (at.Grows word code making) f = absurd f
    makes_table_blocking (at.Remakes making) f = (_, _, f.3)
    makes_table_blocking at.Begins f = tt
    makes_table_blocking at.Follows f = tt
    makes_table_blocking at.Asks f = tt
    makes_table_blocking at.Sees f = tt
    makes_table_blocking at.Claims f = tt
    makes_table_blocking at.Marks f = tt
    makes_table_blocking (at.Probes word code table probe) f = tt
    makes_table_blocking (at.Puts word code table probe) f = tt
    makes_table_blocking (at.Covers word) f = tt
    makes_table_blocking (at.Passes word code table) f = tt
    makes_table_blocking at.Aborts f = tt
    makes_table_blocking at.Replaces f = tt
    makes_table_blocking at.Counts f = tt
    makes_table_blocking (at.Tallies word fault) f = tt
    makes_table_blocking (at.Unmarks word fault) f = tt
    makes_table_blocking (at.Unclaims fault) f = tt
    makes_table_blocking at.Promotes f = tt
    makes_table_blocking at.Announces f = tt
    makes_table_blocking (at.Succeeds table) f = tt
    makes_table_blocking (at.Retires settle rest) f = tt
    makes_table_blocking at.Over f = tt
    makes_table_blocking (at.Refused fault) f = tt
