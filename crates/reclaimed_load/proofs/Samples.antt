-- Words and what is printed, worked by hand: examples that the definitions of specs/Load.antt have to give. Nothing cites them.
use Rattle.std.proofs.Common.{◌≡◌, [], ◌∷◌, Ok, Err, refl}
use Rattle.std.specs.Prelude.{codes}
use Rattle.std.specs.Fmt.{digits}
use Rattle.reclaimed_script.specs.declared.fault.LineFault.TheVariants.{UnknownEvent, BadWord}
use Rattle.reclaimed_script.specs.Words.{number_between, number_of, value_from}
use Rattle.reclaimed_load.specs.Load.{load_by, load_of, load_text}

four_threads : load_of (codes "load" ∷ codes "4" ∷ codes "1000" ∷ []) ≡ Ok (4, 1000)
unfolding load_by number_between number_of value_from
four_threads = refl

most : load_of (codes "load" ∷ codes "16" ∷ codes "1000000" ∷ []) ≡ Ok (16, 1000000)
unfolding load_by number_between number_of value_from
most = refl

no_thread : load_of (codes "load" ∷ codes "0" ∷ codes "1" ∷ []) ≡ Err BadWord
unfolding load_by number_between number_of value_from
no_thread = refl

an_update_too_many : load_of (codes "load" ∷ codes "1" ∷ codes "1000001" ∷ []) ≡ Err BadWord
unfolding load_by number_between number_of value_from
an_update_too_many = refl

another_word : load_of (codes "lead" ∷ codes "1" ∷ codes "1" ∷ []) ≡ Err UnknownEvent
another_word = refl

no_updates_said : load_of (codes "load" ∷ codes "1" ∷ []) ≡ Err UnknownEvent
no_updates_said = refl

three_lines : load_text 4 16 4000 ≡ codes "threads 4\nkeys 16\nsum 4000\n"
unfolding digits
three_lines = refl
