-- A device or a scheme as contracts see it: the ghost members of its trait as one value. A clause
-- writes it `S.Source`, `W.Sink`, `Z.RandomSource` or `S.Scheme`, even if `S` is a `Rereader`, whose own
-- member is `S.steady`.
--
-- The contracts of the traits cannot cite definitions that take these records, because the records are made
-- from the traits. So the records of the calls in `Devices` take the members one by one.
use Rattle.minisign_base.specs.declared.devices.random_sources.RandomSource as random_source
use Rattle.minisign_base.specs.declared.devices.sinks.Sink as sink
use Rattle.minisign_base.specs.declared.devices.sources.Source as source
use Rattle.minisign_base.specs.declared.scheme.Scheme as scheme

-- The ghost members of a source: `ahead`, `behind`, `since`, `is_marked`, `left` and `faults`.
abbrev pub SourceOf : Type 0 → Type 1
SourceOf S = source.Ghosts S

-- The ghost members of a sink: `taken`, `flushed` and `sink_faults`.
abbrev pub SinkOf : Type 0 → Type 1
SinkOf W = sink.Ghosts W

-- The ghost members of a random source: `random_ahead` and `random_faults`.
abbrev pub RandomOf : Type 0 → Type 1
RandomOf Z = random_source.Ghosts Z

-- The ghost members of a signature scheme: `public_of`, `signature_of` and `accepts`.
abbrev pub SchemeOf : Type 0 → Type 1
SchemeOf S = scheme.Ghosts S
