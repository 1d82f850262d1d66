-- What a handle owns.
use base.Fml.{Fml, ftrue, fex}
use base.Stored.{Coded}
use mir.Syntax.{Ty}
use denote.RawPtr.{Ptr, null_ptr}
use Rattle.std.specs.Prelude.{◌≡◌, Option, Some, None}
use Rattle.std.specs.Coded.{coded_option}
use Rattle.std.specs.Box.Ownership.{box_owns}
use Rattle.std.specs.contracts.impls.GlobalAllocator.TheImpl.{ghosts}
use Rattle.pathspec_c.specs.Searchers.{SearcherContents}
use Rattle.pathspec_c.specs.contracts.searcher.Searcher.{the_row}

-- the right to free a block of the heap
abbrev pub heap_token : Ty → Ptr → Fml
heap_token = ghosts.dealloc_token (record { memory = record { seal = tt } })

-- nothing, where the pointer is null; or what a box at the pointer owns
abbrev pub searcher_at : Ptr → Option SearcherContents → Fml
searcher_at p None = fex (p ≡ null_ptr) (λ _. ftrue)
searcher_at p (Some x) = box_owns heap_token the_row p x

-- how a ghost field stores it
abbrev pub searcher_coded : Coded (Option SearcherContents)
searcher_coded = coded_option the_row.coded
