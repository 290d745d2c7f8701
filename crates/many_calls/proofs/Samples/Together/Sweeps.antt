-- What is refused of walks, clearings and retainings among many callers.
use Rattle.std.specs.Prelude.{◌≡◌, ◌<◌, ℕ, Bool, true, false, List, [], Option, Some, None}
use Rattle.std.proofs.Common.{ap, sym, ◌∙◌, inl, inr, arith}
use Rattle.seize_model.specs.Given.SeizeWorld.{World}
use Rattle.map_facts_late.specs.Given.TablesDeclared.node.Node.{Node}
use Rattle.map_facts_late.specs.Given.TablesDeclared.setting.Setting.{Setting}
use Rattle.map_facts_late.specs.Given.ReservesDeclared.sweep.Purpose.TheVariants.{Walks, Clears, Retains}
use Rattle.map_facts_late.specs.Given.ReservesDeclared.sweep.Sweep.{Sweep}
use Rattle.map_facts_late.specs.Given.RuleChart.{Chart}
use Rattle.map_facts_late.specs.Given.RuleWords.{Blocks}
use Rattle.map_facts_late.specs.Covers.{WasAlways, Came}
use Rattle.many_calls.specs.OverAll.{Verdict, CallOverAll, verdict, RemovesAsReplied}
use Rattle.many_calls.specs.Together.{KnowsSweep}

module _ {K : Type 0} (o : CallOverAll) (c c2 : Chart K) (n : ℕ) (was : c.current n ≡ true) (gone : c2.current n ≡ false) where
  same_pairs : c2.current ≡ c.current → ⊥
  same_pairs e = let there = ap (λ (f : ℕ → Bool). f n) e in cc (there, was, gone)

  -- a walk removes a pair
  walk_removes : o.sweep.purpose ≡ Walks → RemovesAsReplied o c c2 → ⊥
  walk_removes walks (inl e) = same_pairs e
  walk_removes walks (inr (m, there, removed, inl clears)) = cc (walks, clears)
  walk_removes walks (inr (m, there, removed, inr (retains, told))) = cc (walks, retains)

  -- a retaining removes a pair that it was told last to keep
  removes_what_is_kept : o.sweep.purpose ≡ Retains → o.told ≡ verdict n true → RemovesAsReplied o c c2 → ⊥
  removes_what_is_kept retains kept (inl e) = same_pairs e
  removes_what_is_kept retains kept (inr (m, there, removed, inl clears)) = cc (retains, clears)
  removes_what_is_kept retains kept (inr (m, there, removed, inr (purpose, told))) = let e : true ≡ false = ap keeps_it (sym kept ∙ told) in cc e
    where
      keeps_it : Option Verdict → Bool
      keeps_it (Some v) = v.keeps
      keeps_it None = true

-- a clearing ends, and a pair was in the map all the while
clearing_leaves : {K : Type 0} (c : Chart K) (entered n : ℕ) (done : List ℕ) → WasAlways c entered n → Came c entered Clears done → ⊥
clearing_leaves c entered n done always came = came.all n always

-- a walk ends, has shown nothing, and a pair was in the map all the while
walk_misses : {K : Type 0} (c : Chart K) (entered n : ℕ) → WasAlways c entered n → Came c entered Walks [] → ⊥
walk_misses c entered n always came = let shown = came.all n always in omega (arith, shown)

-- a sweep counts from a moment before it began
counts_from_before : {K V Q : Type 0} (same : K → K → Bool) (hash : K → ℕ) (asks : Q → K → Bool) (setting : Setting) (slot : ℕ → ℕ) (w : World (Node K V)) (c : Chart K) (seen : Blocks) (i : ℕ) (o : CallOverAll) (p : Sweep)
    → o.entered < o.began → KnowsSweep V same hash asks setting slot w c seen i o p → ⊥
counts_from_before same hash asks setting slot w c seen i o p before k = let from = k.from in omega (arith, before, from)
