-- A source owns nothing, so it may go to another thread.
use denote.Param.Send.{IsSend, owning_send}
use Rattle.pathspec_glob.specs.contracts.source.Source.{the_row, the_type}

pub send : IsSend the_row
send = owning_send the_type tt (λ d. tt) (λ k x w. tt)
