-- What a call goes on as after a step, and that maps go on with their settings and hashes.
use Rattle.std.specs.Prelude.{◌≡◌, ℕ, Option, Some, None, option_map}
use Rattle.std.proofs.Common.{refl, sym, ap, ◌∙◌}
use Rattle.run_effects.specs.Given.TablesDeclared.node.Node.{Node}
use Rattle.run_effects.specs.Given.RawDeclared.machines.machine.Machine.{Machine}
use Rattle.run_effects.specs.Given.RawDeclared.machines.progress.Progress.{Progress}
use Rattle.run_effects.specs.Given.RawDeclared.machines.progress.Progress.TheVariants as progress
use Rattle.many_maps.specs.Given.CallersTogether.{UnderWay}
use Rattle.many_maps.specs.Machines.{machine_of, ContinuesAs, MapContinues}
use Rattle.many_maps.specs.Maps.{Standing, IsSameMap}
use Rattle.run_shows.specs.Scenes.Stepping.{going_on}

-- what goes on is the machine after the step
pub goes_as : {K V : Type 0} (machine : Machine K V K) (told : Progress (Node K V)) (next : Option (UnderWay K V K)) → ContinuesAs machine told next → option_map machine_of next ≡ going_on machine told
goes_as {K} {V} machine told next goes = of told goes
  where
    under : (x : UnderWay K V K) → next ≡ Some x → machine_of x ≡ machine → option_map machine_of next ≡ Some machine
    under x is same = ap (option_map machine_of) is ∙ ap Some same

    of : (told : Progress (Node K V)) → ContinuesAs machine told next → option_map machine_of next ≡ going_on machine told
    of progress.Goes g = under g.0 g.1 g.2
    of (progress.Asks about) g = under g.0 g.1 g.2
    of progress.Waits g = under g.0 g.1 g.2
    of progress.Ready g = under g.0 g.1 g.2
    of (progress.Pair word) g = under g.0 g.1 g.2
    of (progress.Gave value) g = under g.0 g.1 g.2
    of (progress.Unstored value) g = under g.0 g.1 g.2
    of (progress.Done answer) g = ap (option_map machine_of) g
    of (progress.Refused fault) g = ap (option_map machine_of) g

-- its hash, if there is one
abbrev hash_or : {K : Type 0} → (K → ℕ) → Option (Standing K) → K → ℕ
hash_or none None = none
hash_or none (Some standing) = standing.hash

module _ {K : Type 0} (hash : K → ℕ) where
  -- a map goes on with its setting, and with this hash, which it had
  pub record Keeps (before after : Option (Standing K)) : Type 0 where
    pub setting : option_map (λ standing. standing.setting) after ≡ option_map (λ standing. standing.setting) before
    pub hashes : (standing : Standing K) → after ≡ Some standing → standing.hash ≡ hash

  pub same_map_keeps : (before after : Option (Standing K)) → ((standing : Standing K) → before ≡ Some standing → standing.hash ≡ hash) → IsSameMap before after → Keeps before after
  same_map_keeps None after had is = record { setting = ap (option_map (λ standing. standing.setting)) is; hashes = λ standing some. absurd (cc (is, some)) }
  same_map_keeps (Some old) after had (blocks, sights, is, part) = record {
    setting = ap (option_map (λ standing. standing.setting)) is;
    hashes = λ standing some. ap (hash_or hash) (sym some ∙ is) ∙ had old refl;
  }

  pub moved_map_keeps : (old : Standing K) (before after : Option (Standing K)) → before ≡ Some old → old.hash ≡ hash → MapContinues old after → Keeps before after
  moved_map_keeps old before after was had (chart, blocks, sights, remembers, is) = record {
    setting = ap (option_map (λ standing. standing.setting)) is ∙ sym (ap (option_map (λ standing. standing.setting)) was);
    hashes = λ standing some. ap (hash_or hash) (sym some ∙ is) ∙ had;
  }
