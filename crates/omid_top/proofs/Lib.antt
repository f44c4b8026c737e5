mod ArchiveTexts
mod CommandLemmas
mod PrintLemmas
mod PromiseLemmas
mod ReportLemmas
mod WordLemmas
