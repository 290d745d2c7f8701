-- What follows with the closure on what a step of a sweep tells, by what that is.
use Rattle.std.specs.Prelude.{Some, None, Result, Ok, Err}
use Rattle.std.specs.Fn.{Called, Mut}
use Rattle.std.proofs.Common.{◌≡◌, ℕ, Bool, refl, sym, subst}
use denote.Ref.{Bor}
use Rattle.seize_words.specs.OneMemory.Word.{block_in}
use Rattle.seize_words.specs.declared.fault.Fault.{Fault}
use Rattle.map_tables.specs.declared.node.Node.{Node}
use Rattle.map_tables.specs.declared.node.Node.TheVariants.{Pair}
use Rattle.papaya_raw.specs.Given.ReservesDeclared.sweep.Purpose.TheVariants.{Retains, Walks}
use Rattle.papaya_raw.specs.declared.machines.machine.Machine.{Machine}
use Rattle.papaya_raw.specs.declared.machines.progress.Answer.TheVariants as said
use Rattle.papaya_raw.specs.declared.machines.progress.Progress.{Progress}
use Rattle.papaya_raw.specs.declared.machines.progress.Progress.TheVariants as progress
use Rattle.threads_calls.specs.Given.ViewsLooks.{shown_in}
use Rattle.threads_calls.specs.Given.ViewsDeclared.view.View.{View}
use Rattle.threads_calls.specs.Given.ViewsDeclared.view.SeatWork.TheVariants.{Nothing}
use Rattle.threads_calls.specs.Given.ErrandsCalling.{IsGoing, IsNoQuestion, outcome_of}
use Rattle.threads_calls.specs.Given.ErrandsSweeping.{IsSweeping, RetainedSo, WalkedSo, swept_by}
use Rattle.threads_sweeps.specs.Closures.{HeedsSo, WasCalledWith}
use Rattle.threads_sweeps.specs.Heard.{IsOfSweep}

-- the closure was called with what the seat shows
pub called_with : {F A K V S : Type 0} (g : Mut F (Bor K × (Bor V × Unit {0})) A) (word : ℕ) (v : View K V S) (f : F) (p : Bor K) (q : Bor V) (answer : A) (next : F) → Called g f (p, (q, tt)) answer next
    → shown_in v.held (block_in word) ≡ Some (Pair p.now q.now) → WasCalledWith g word v f answer next
called_with g word v f p q answer next called shown = record { key = p; value = q; shown = shown; called = called }

module _ {T : Type 0} (P : Progress T → Type 0) where
  -- what is so of each step that goes on, and asks nothing,
  pub where_it_goes : P progress.Goes → P progress.Waits → ((value : T) → P (progress.Gave value)) → ((value : T) → P (progress.Unstored value)) → (told : Progress T) → IsGoing told × IsNoQuestion told → P told
  where_it_goes goes waits gave unstored progress.Goes is = goes
  where_it_goes goes waits gave unstored progress.Waits is = waits
  where_it_goes goes waits gave unstored (progress.Gave value) is = gave value
  where_it_goes goes waits gave unstored (progress.Unstored value) is = unstored value
  where_it_goes goes waits gave unstored progress.Ready is = absurd is.1
  where_it_goes goes waits gave unstored (progress.Asks pair) is = absurd is.1
  where_it_goes goes waits gave unstored (progress.Pair pair) is = absurd is.1
  where_it_goes goes waits gave unstored (progress.Done answer) is = absurd is.0
  where_it_goes goes waits gave unstored (progress.Refused fault) is = absurd is.0

  -- or of each by which a sweep ends
  pub where_it_ends : P (progress.Done said.Swept) → ((fault : Fault) → P (progress.Refused fault)) → (told : Progress T) (end : Result Unit Fault) → told ≡ outcome_of (swept_by end) → P told
  where_it_ends swept refused told (Ok done) e = subst P (sym e) swept
  where_it_ends swept refused told (Err fault) e = subst P (sym e) (refused fault)

module _ {K V S : Type 0} (hasher : S) (machine : Machine K V K) (v : View K V S) where
  -- a walk tells what a sweep may tell,
  pub walk_tells : (told : Progress (Node K V)) → WalkedSo hasher machine told v → IsOfSweep told
  walk_tells progress.Goes so = tt
  walk_tells progress.Waits so = tt
  walk_tells (progress.Gave value) so = tt
  walk_tells (progress.Unstored value) so = tt
  walk_tells progress.Ready so = tt
  walk_tells (progress.Asks None) so = so
  walk_tells (progress.Asks (Some word)) so = tt
  walk_tells (progress.Pair pair) so = tt
  walk_tells (progress.Done said.Swept) so = tt
  walk_tells (progress.Done said.Reserved) so = so
  walk_tells (progress.Done (said.Key key)) so = so
  walk_tells (progress.Done (said.Count count)) so = so
  walk_tells (progress.Refused fault) so = tt

  -- and a retaining
  pub retaining_tells : (told : Progress (Node K V)) → RetainedSo hasher machine told v → IsOfSweep told
  retaining_tells progress.Goes so = tt
  retaining_tells progress.Waits so = tt
  retaining_tells (progress.Gave value) so = tt
  retaining_tells (progress.Unstored value) so = tt
  retaining_tells progress.Ready so = tt
  retaining_tells (progress.Asks None) so = so
  retaining_tells (progress.Asks (Some word)) so = tt
  retaining_tells (progress.Pair pair) so = tt
  retaining_tells (progress.Done said.Swept) so = tt
  retaining_tells (progress.Done said.Reserved) so = so
  retaining_tells (progress.Done (said.Key key)) so = so
  retaining_tells (progress.Done (said.Count count)) so = so
  retaining_tells (progress.Refused fault) so = tt

  -- one that goes on is still under way,
  pub walks_on : (told : Progress (Node K V)) → IsGoing told × IsNoQuestion told → WalkedSo hasher machine told v → IsSweeping Walks hasher machine v
  walks_on told goes =
      where_it_goes (λ (t : Progress (Node K V)). WalkedSo hasher machine t v → IsSweeping Walks hasher machine v) (λ so. so) (λ so. so) (λ value so. so) (λ value so. so) told goes

  pub retains_on : (told : Progress (Node K V)) → IsGoing told × IsNoQuestion told → RetainedSo hasher machine told v → IsSweeping Retains hasher machine v
  retains_on told goes =
      where_it_goes (λ (t : Progress (Node K V)). RetainedSo hasher machine t v → IsSweeping Retains hasher machine v) (λ so. so) (λ so. so) (λ value so. so) (λ value so. so) told goes

  -- and one that has ended is not
  pub walk_free : (told : Progress (Node K V)) (end : Result Unit Fault) → told ≡ outcome_of (swept_by end) → WalkedSo hasher machine told v → v.work ≡ Nothing
  walk_free told end e = where_it_ends (λ (t : Progress (Node K V)). WalkedSo hasher machine t v → v.work ≡ Nothing) (λ so. so) (λ fault so. so) told end e

  pub retaining_free : (told : Progress (Node K V)) (end : Result Unit Fault) → told ≡ outcome_of (swept_by end) → RetainedSo hasher machine told v → v.work ≡ Nothing
  retaining_free told end e = where_it_ends (λ (t : Progress (Node K V)). RetainedSo hasher machine t v → v.work ≡ Nothing) (λ so. so) (λ fault so. so) told end e

module _ {F K V S : Type 0} (g : Mut F (Bor K × (Bor V × Unit {0})) Bool) (f : F) (v : View K V S) (told : Progress (Node K V)) where
  -- or for that of a retaining
  pub heeds_none : IsGoing told × IsNoQuestion told → HeedsSo g told f v f v
  heeds_none goes = where_it_goes (λ (t : Progress (Node K V)). HeedsSo g t f v f v) (refl, refl) (refl, refl) (λ value. (refl, refl)) (λ value. (refl, refl)) told goes

  pub heeds_no_more : (end : Result Unit Fault) → told ≡ outcome_of (swept_by end) → HeedsSo g told f v f v
  heeds_no_more end e = where_it_ends (λ (t : Progress (Node K V)). HeedsSo g t f v f v) (refl, refl) (λ fault. (refl, refl)) told end e
