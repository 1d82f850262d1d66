-- A handle may go to another thread, since the box that it owns may.
use mir.Raw.{raw}
use mir.Syntax.{Ty}
use base.Fraction.{full_share}
use base.Shift.{Keyless}
use denote.Exit.{Exit, unchanged, leaves, hidden, under}
use denote.Memory.{lone}
use denote.Param.Send.{IsSend, Quiet, AllSend, part_keyless, owning_send, struct_send, sendable}
use denote.RawPtr.{Ptr, block_ptr, null_ptr}
use denote.Struct.Owning.{shape, fields, to}
use denote.Struct.Struct.{exits_of}
use Rattle.std.proofs.Crossing.{frees}
use Rattle.std.specs.declared.option.Option.{Option}
use Rattle.std.specs.declared.option.Option.TheVariants.{None, Some}
use Rattle.pathspec_c.specs.Handle.{searcher_at, heap_token}
use Rattle.pathspec_c.specs.contracts.searcher.Searcher.{the_row as Searcher}
use Rattle.pathspec_c.proofs.searcher.Searcher.TheSendSync.{the_send as searcher_send}
use Rattle.pathspec_c.specs.contracts.handle.PsSearch.{the_row, the_type}

heap_token-keyless : (τ : Ty) (p : Ptr) → Keyless (heap_token τ p)
heap_token-keyless = frees.frees (record { memory = record { seal = tt } })

searcher_keyless : (p : Ptr) (searcher : Option Searcher.Denot) → Keyless (searcher_at p searcher)
searcher_keyless p None = λ _. tt
searcher_keyless (block_ptr b o) (Some x) = (part_keyless Searcher searcher_send full_share x b o, heap_token-keyless (raw (lone Searcher.mir)) (block_ptr b o))
searcher_keyless null_ptr (Some x) = (tt, heap_token-keyless (raw (lone Searcher.mir)) null_ptr)

-- what is left of a handle by its fields says nothing of threads
still : {D X : Type 0} (to : D → X) (e : Exit X) → Quiet e → Quiet (hidden (under to e))
still to unchanged q = λ x w. tt
still to (leaves L l S s r) q = λ d. q (to d)

pub send : IsSend the_row
send = let pointer : AllSend (fields the_type) = (search sendable, tt) in
    owning_send the_type pointer (λ h. searcher_keyless h.at h.searcher)
    (λ k. still (to the_type) (exits_of k (fields the_type)) ((struct_send (shape the_type) pointer).leaving k))
