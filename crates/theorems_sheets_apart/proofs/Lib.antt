mod Findings
mod Pages
mod Editions
mod Apart
mod Cases
