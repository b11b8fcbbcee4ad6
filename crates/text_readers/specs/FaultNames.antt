-- The names of the kinds of faults.
use Rattle.std.specs.Prelude.{ℕ, List, codes}
use Rattle.text_readers.specs.declared.fault.FaultKind.{FaultKind}
use Rattle.text_readers.specs.declared.fault.FaultKind.TheVariants.{NotUtf8, BadWord, BadNumber, Range, UnknownNode, Order, Twice, TooMany, Missing, TooBig}

abbrev pub kind_name : FaultKind → List ℕ
kind_name NotUtf8 = codes "NotUtf8"
kind_name BadWord = codes "BadWord"
kind_name BadNumber = codes "BadNumber"
kind_name Range = codes "Range"
kind_name UnknownNode = codes "UnknownNode"
kind_name Order = codes "Order"
kind_name Twice = codes "Twice"
kind_name TooMany = codes "TooMany"
kind_name Missing = codes "Missing"
kind_name TooBig = codes "TooBig"
