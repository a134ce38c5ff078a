mod Examples
mod Refused
mod MeaningExamples
