mod RawBoxValues
mod HandleValues
mod BitProofs
mod ManyProofs
mod GivenProofs
