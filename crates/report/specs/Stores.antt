-- The names of the places where bytes change.
use Rattle.std.specs.Prelude.{ℕ, List, codes}
use Rattle.report.specs.declared.store.Store.{Store}
use Rattle.report.specs.declared.store.Store.TheVariants.{Memory, Kept}

abbrev pub name_of : Store → List ℕ
name_of Memory = codes "memory"
name_of Kept = codes "kept"
