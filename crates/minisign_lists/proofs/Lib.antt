-- The lemmas that the proofs of minisign_lists use.
mod AllEntries
mod AskedLists
mod Deciding
mod EntryBuffers
mod Facts
mod MoreLines
mod RoundTrip
mod WrittenLine
