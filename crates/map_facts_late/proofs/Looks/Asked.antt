-- A lookup with what a call is asked with, and one of its keys, in a table that the root has left: they are one.
use Rattle.std.specs.Prelude.{◌≡◌, ℕ, Bool, Option, Some, None}
use Rattle.std.proofs.Common.{sym, ◌∙◌}
use Rattle.map_facts.specs.Given.SeizeDeclared.advance.Advance.{Advance}
use Rattle.map_facts.specs.Given.SeizeDeclared.advance.Advance.TheVariants as progress
use Rattle.map_facts.specs.Given.TablesDeclared.resize_mode.ResizeMode.{ResizeMode}
use Rattle.map_facts.specs.Given.ResizeDeclared.lookup.Lookup.{Lookup}
use Rattle.map_facts.specs.Given.ResizeDeclared.lookup.Looking.{Looking}
use Rattle.map_facts.specs.Given.ResizeDeclared.lookup.Looking.TheVariants as at
use Rattle.map_facts.specs.Given.RuleChart.{Chart}
use Rattle.map_facts.specs.Given.RuleWords.{Blocks}
use Rattle.map_facts_late.specs.Was.{SoSince}
use Rattle.map_facts_late.specs.LateLooks.{SupersededLooking, SupersededLookupFacts}
use Rattle.map_facts_late.specs.LateTold.{answer_of, SupersededLookupOutcome}

module _ {K : Type 0} (same : K → K → Bool) (hash : K → ℕ) (mode : ResizeMode) (root : ℕ) (keys asked : K → Bool) (agree : (k : K) → asked k ≡ keys k) (code : ℕ)
    (c : Chart K) (blocks : Blocks) (began : ℕ) where
  so_asked : (found : Option ℕ) → SoSince hash c blocks keys began (answer_of found) → SoSince hash c blocks asked began (answer_of found)
  so_asked None (m, since, before, (stored, none)) = (m, since, before, (stored, λ n k was had key. agree k ∙ none n k was had key))
  so_asked (Some word) (m, since, before, (n, (stored, had, k, key, is), known, phase, borrowed, word_is)) =
      (m, since, before, (n, (stored, had, k, key, agree k ∙ is), known, phase, borrowed, word_is))

  looking_asked : (stands : Looking) → SupersededLooking same hash keys code c blocks began stands → SupersededLooking same hash asked code c blocks began stands
  looking_asked at.Roots h = h
  looking_asked (at.Probes trial) (t, j, is, before, left) = (t, j, is, (λ k e. before k (sym (agree k) ∙ e)), left)
  looking_asked (at.Nexts table) h = h
  looking_asked (at.Over found) h = h

  pub lookup_asked : (l : Lookup) → SupersededLookupFacts same hash keys code c blocks began mode root l → SupersededLookupFacts same hash asked code c blocks began mode root l
  lookup_asked l f = record { root_is = f.root_is; mode_is = f.mode_is; hash_is = f.hash_is; point = looking_asked l.stands f.point }

  pub told_asked : (end : Lookup × Advance (Option ℕ)) → SupersededLookupOutcome same hash mode root keys code c blocks began end → SupersededLookupOutcome same hash mode root asked code c blocks began end
  told_asked (l, progress.Goes) told = lookup_asked l told
  told_asked (l, progress.Waits) told = told
  told_asked (l, progress.Done found) told = so_asked found told
  told_asked (l, progress.Refused fault) told = told
