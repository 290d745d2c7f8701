-- A lookup with what a call is asked with, and one of its keys: they are one.
use Rattle.std.specs.Prelude.{◌≡◌, ℕ, Bool, Option, Some, None}
use Rattle.std.proofs.Common.{sym, ◌∙◌}
use Rattle.papaya_raw.specs.Given.SeizeDeclared.advance.Advance.{Advance}
use Rattle.papaya_raw.specs.Given.SeizeDeclared.advance.Advance.TheVariants as progress
use Rattle.papaya_raw.specs.Given.TablesDeclared.resize_mode.ResizeMode.{ResizeMode}
use Rattle.map_rule.specs.Given.ResizeDeclared.lookup.Lookup.{Lookup}
use Rattle.map_rule.specs.Given.ResizeDeclared.lookup.Looking.{Looking}
use Rattle.map_rule.specs.Given.ResizeDeclared.lookup.Looking.TheVariants as at
use Rattle.map_rule.specs.Chart.{Chart}
use Rattle.map_rule.specs.Words.{Blocks}
use Rattle.map_rule.specs.Maps.{IsClass}
use Rattle.map_facts.specs.FactsLooks.{Answers, LookingFacts, LookupFacts}
use Rattle.map_facts.specs.Told.{LookupOutcome}

module _ {K : Type 0} (same : K → K → Bool) (hash : K → ℕ) (mode : ResizeMode) (root : ℕ) (keys asked : K → Bool) (agree : (k : K) → asked k ≡ keys k) (code : ℕ) where
  pub class_asked : IsClass same hash keys code → IsClass same hash asked code
  class_asked class = record {
    hashes = λ k e. class.hashes k (sym (agree k) ∙ e);
    one = λ k other e. agree other ∙ class.one k other (sym (agree k) ∙ e);
  }

  module _ (c : Chart K) (blocks : Blocks) where
    answers_asked : (found : Option ℕ) → Answers same hash mode root keys code c blocks found → Answers same hash mode root asked code c blocks found
    answers_asked None h = λ n k current key. agree k ∙ h n k current key
    answers_asked (Some word) (n, phase, borrowed, (current, k, key, is), word_is) = (n, phase, borrowed, (current, k, key, agree k ∙ is), word_is)

    looking_asked : (stands : Looking) → LookingFacts same hash mode root keys code c blocks stands → LookingFacts same hash mode root asked code c blocks stands
    looking_asked at.Roots h = h
    looking_asked (at.Probes trial) (t, j, is, none, first) = (t, j, is, λ k e. none k (sym (agree k) ∙ e), first)
    looking_asked (at.Nexts table) (bits, t, is, shut) = (bits, t, is, λ k e. shut k (sym (agree k) ∙ e))
    looking_asked (at.Over found) h = h

    pub lookup_asked : (l : Lookup) → LookupFacts same hash mode root keys code c blocks l → LookupFacts same hash mode root asked code c blocks l
    lookup_asked l f = record { root_is = f.root_is; mode_is = f.mode_is; hash_is = f.hash_is; point = looking_asked l.stands f.point }

    pub told_asked : (end : Lookup × Advance (Option ℕ)) → LookupOutcome same hash mode root keys code c blocks end → LookupOutcome same hash mode root asked code c blocks end
    told_asked (l, progress.Goes) told = lookup_asked l told
    told_asked (l, progress.Waits) told = told
    told_asked (l, progress.Done found) told = answers_asked found told
    told_asked (l, progress.Refused fault) told = told
